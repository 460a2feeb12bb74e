-- The library's test of all bytes of a name is the definition's. Assumes nothing.
use Prim.Native.Nat.{ℕ}
use mathlib.Core.Path.{◌≡◌, refl, ap}
use mathlib.Core.Bool.{Bool, ◌&&◌}
use mathlib.Core.List.{List, [], ◌∷◌}
use Rattle.std.specs.List.{list_all}
use Rattle.sentence.specs.Other.{is_plain, all_plain}

pub same_all : (bs : List ℕ) → list_all is_plain bs ≡ all_plain bs
unfolding all_plain
same_all [] = refl
same_all (b ∷ bs) = ap (λ (t : Bool). is_plain b && t) (same_all bs)
