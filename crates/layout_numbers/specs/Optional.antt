-- What may be absent, as two numbers: whether it is there, and its number.
use Rattle.std.specs.Prelude.{ℕ, List, [], ◌∷◌, Option, None, Some}

-- whether it is there: 1 or 0
abbrev pub there_of : Option ℕ → ℕ
there_of None = 0
there_of (Some n) = 1

-- its number, or 0
abbrev pub value_of : Option ℕ → ℕ
value_of None = 0
value_of (Some n) = n

-- 0 and 0, or 1 and the number
abbrev pub two_of : Option ℕ → List ℕ
two_of o = there_of o ∷ value_of o ∷ []
