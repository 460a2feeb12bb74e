-- How long what a table prints can be, worked out from its rows, so that whoever lends that much room loses nothing at its end. Rows left out count too.
use Rattle.std.specs.Prelude.{ℕ, ◌+◌, ◌*◌, List, [], ◌∷◌, length}
use Rattle.face_rows.specs.Rows.{Value, nothing, number, signed, tenths, degrees, quoted, hexed, pattern, letter, pair, float, Row}

-- the most bytes of a value, where the texts are `room` bytes long at most: a decimal has 20 digits, a sign, a point and a quotation mark are one byte,
-- a byte of a string is six where it is told by its number, and two as hex
abbrev pub value_bound : ℕ → Value → ℕ
value_bound room nothing = 0
value_bound room (number place) = 20
value_bound room (signed place) = 1 + 20
value_bound room (tenths place) = 20 + 1 + 1
value_bound room (degrees place) = 1 + 20 + 1 + 6
value_bound room (quoted place start) = 1 + 6 * room + 1
value_bound room (hexed place start) = 1 + 2 * room
value_bound room (pattern place) = 8
value_bound room (letter place) = 1 + 6 + 1
value_bound room (pair place) = 2
value_bound room (float place) = 20 + 1 + 9

-- the words and values of all rows
abbrev pub bound_of : ℕ → List Row → ℕ
bound_of room [] = 0
bound_of room (r ∷ rows) = length r.word + value_bound room r.value + bound_of room rows
