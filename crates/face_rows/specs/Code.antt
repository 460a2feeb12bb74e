-- The rows that the code holds, in the words of specs/Rows.
use Rattle.std.specs.Prelude.{List, [], ◌∷◌}
use Rattle.face_rows.specs.declared.Test as held_test
use Rattle.face_rows.specs.declared.Value as held_value
use Rattle.face_rows.specs.declared.Row as held_row
use Rattle.face_rows.specs.declared.Test.TheVariants.{Always, Is, IsNot, Least, Below}
use Rattle.face_rows.specs.declared.Value.TheVariants.{Nothing, Number, Signed, Tenths, Degrees, Quoted, Hexed, Pattern, Letter, Pair, Float}
use Rattle.face_rows.specs.declared.Row.TheVariants.{Words, Put, Group}
use Rattle.face_rows.specs.Rows.{Test, always, is, is_not, least, below, Value, nothing, number, signed, tenths, degrees, quoted, hexed, pattern}
use Rattle.face_rows.specs.Rows.{letter, pair, float, Row, row}

abbrev pub test_in : held_test.Test → Test
test_in Always = always
test_in (Is place n) = is place n
test_in (IsNot place n) = is_not place n
test_in (Least place n) = least place n
test_in (Below place n) = below place n

abbrev pub value_in : held_value.Value → Value
value_in Nothing = nothing
value_in (Number place) = number place
value_in (Signed place) = signed place
value_in (Tenths place) = tenths place
value_in (Degrees place) = degrees place
value_in (Quoted place start) = quoted place start
value_in (Hexed place start) = hexed place start
value_in (Pattern place) = pattern place
value_in (Letter place) = letter place
value_in (Pair place) = pair place
value_in (Float place) = float place

-- a group's test stands alone, before so many rows
abbrev pub row_in : held_row.Row → Row
row_in (Words when word) = row (test_in when) word.now nothing
row_in (Put when word value) = row (test_in when) word.now (value_in value)
row_in (Group when span) = record { when = test_in when; span = span; word = []; value = nothing }

unfoldable pub rows_in : List held_row.Row → List Row
rows_in [] = []
rows_in (r ∷ rows) = row_in r ∷ rows_in rows
