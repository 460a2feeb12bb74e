-- NOTHING IS LOST: what a call gives back and the line's buffer are told by what is given. Assumes nothing.
use mathlib.Core.Path.{◌≡◌, ap}
use mathlib.Core.List.{List}
use Prim.Native.Nat.{ℕ}
use Rattle.stream.specs.Next.{Given, taken_with}
use Rattle.stream.specs.declared.Taken.{Taken}

pub same_taken : (a b : Taken) (l m : List ℕ) → taken_with a l ≡ taken_with b m → (a ≡ b) × (l ≡ m)
same_taken a b l m e = (ap (λ (g : Given). g.taken) e, ap (λ (g : Given). g.line) e)
