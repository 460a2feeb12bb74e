-- NOTHING IS LOST: a place and a buffer are told by the text that they are. Assumes nothing.
use mathlib.Core.Path.{◌≡◌, ap}
use mathlib.Core.List.{List}
use Prim.Native.Nat.{ℕ}
use Rattle.text_out.specs.Text.{Text, text}

-- where the buffer is full too: the place is a part of the text
pub same_text : (a b : ℕ) (l m : List ℕ) → text a l ≡ text b m → (a ≡ b) × (l ≡ m)
same_text a b l m e = (ap (λ (t : Text). t.at) e, ap (λ (t : Text). t.bytes) e)
