-- Whether two strings of bytes are the same.
use Rattle.std.specs.Prelude.{ℕ, Bool, true, false, ◌&&◌, List, [], ◌∷◌, eqb}

-- byte by byte, and as long
unfoldable pub same_as : List ℕ → List ℕ → Bool
same_as [] [] = true
same_as [] (y ∷ t) = false
same_as (x ∷ s) [] = false
same_as (x ∷ s) (y ∷ t) = eqb x y && same_as s t
