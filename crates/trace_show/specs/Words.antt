-- Rows for words of the comparing protocol. "Words are separated by one space": each value stands after its space.
use Rattle.std.specs.Prelude.{ℕ, List, [], ◌∷◌}
use Prim.Native.String.{String}
use Rattle.text_out.specs.Text.{ascii}
use Rattle.face_rows.specs.Rows.{Test, always, is, is_not, Value, nothing, number, Row, row}

-- words, words where a test holds, and a value after words
abbrev pub words : String → List Row
words w = row always (ascii w) nothing ∷ []

abbrev pub words_if : Test → String → List Row
words_if t w = row t (ascii w) nothing ∷ []

abbrev pub value : String → Value → List Row
value w v = row always (ascii w) v ∷ []

abbrev pub value_if : Test → String → Value → List Row
value_if t w v = row t (ascii w) v ∷ []

abbrev pub spaced : Value → List Row
spaced v = value " " v

-- "What is absent is `-`": a value where the number at `there` is 1, and a number but for the one that stands for none
abbrev pub or_dash : ℕ → Value → List Row
or_dash there v = row (is there 1) (ascii " ") v ∷ row (is_not there 1) (ascii " -") nothing ∷ []

abbrev pub unless_dash : ℕ → ℕ → List Row
unless_dash place none = row (is_not place none) (ascii " ") (number place) ∷ row (is place none) (ascii " -") nothing ∷ []
