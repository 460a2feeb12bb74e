-- Where a line ends, and how long it is.
use Rattle.std.specs.Prelude.{ℕ, ◌-◌, Bool, ◌&&◌, List, [], ◌∷◌, length, get_or, eqb}
use Rattle.refusal.specs.Words.{pick}

-- the bytes before the first LF (10) of s; all of them where there is none
unfoldable pub until_lf : List ℕ → List ℕ
until_lf [] = []
until_lf (x ∷ xs) = pick (eqb x 10) [] (x ∷ until_lf xs)

-- whether the last byte is a CR (13)
unfoldable pub ends_in_cr : List ℕ → Bool
ends_in_cr h = eqb (get_or h (length h - 1) 0) 13

-- the length of the line h, without one CR at its end where CRs are stripped
unfoldable pub line_len : Bool → List ℕ → ℕ
line_len strip h = pick (strip && ends_in_cr h) (length h - 1) (length h)
