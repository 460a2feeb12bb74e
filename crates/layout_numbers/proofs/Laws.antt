-- What was put, by another name and at a place that is there. Assumes nothing.
use mathlib.Core.Path.{◌≡◌, ap, ◌∙◌}
use Prim.Native.Nat.{ℕ, ◌+◌, ◌<◌}
use mathlib.Core.List.{List, [], ◌∷◌}
use lib.ListN.{length, set}
use borrow.Author.Tests.{lt-ltb}
use Rattle.text_out.specs.Text.{Text, text, put, put1}

pub put-named : (x : Text) {y : Text} {s t : List ℕ} → y ≡ put x s → s ≡ t → y ≡ put x t
put-named x e f = e ∙ ap (put x) f

pub put_there : (at next : ℕ) (l : List ℕ) (n : ℕ) → at < length l → next ≡ at + 1 → text next (set l at n) ≡ put (text at l) (n ∷ [])
unfolding put put1
put_there at next l n h e = rw (lt-ltb at (length l) h, e)
