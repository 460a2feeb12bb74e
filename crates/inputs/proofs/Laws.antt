-- What stands at a place of a list does not depend on what is taken past its end. Assumes nothing.
use Prim.Native.Nat.{ℕ, zero, suc, ◌<◌}
use native.Mathlib.Omega.{arith}
use mathlib.Core.Path.{◌≡◌, refl}
use mathlib.Core.List.{List, [], ◌∷◌}
use lib.ListN.{length, get_or}

pub in_list : (l : List ℕ) (i d e : ℕ) → i < length l → get_or l i d ≡ get_or l i e
in_list [] i d e h = absurd (omega arith)
in_list (x ∷ l) zero d e h = refl
in_list (x ∷ l) (suc i) d e h = in_list l i d e (omega arith)
