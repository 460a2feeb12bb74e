-- Rows for members of a JSON object. What stands in quotes is RFC 8259.
use Rattle.std.specs.Prelude.{ℕ, suc, ◌+◌, List, [], ◌∷◌, ◌++◌}
use Prim.Native.String.{String}
use Rattle.text_out.specs.Text.{ascii}
use Rattle.face_members.specs.Words.{hazards, reserved}
use Rattle.face_rows.specs.Rows.{Test, always, is, is_not, least, below, Value, nothing, number, Row, row, group}

-- words alone, and words where a test holds
abbrev pub words : String → List Row
words w = row always (ascii w) nothing ∷ []

abbrev pub words_if : Test → String → List Row
words_if t w = row t (ascii w) nothing ∷ []

-- a value after words, where a test holds
abbrev pub value_if : Test → String → Value → List Row
value_if t w v = row t (ascii w) v ∷ []

-- "A single colon comes after each name, separating the name from the value. A single comma separates a value from a following name."
abbrev pub key : String → List ℕ
key name = ascii ",\"" ++ ascii name ++ ascii "\":"

abbrev pub member : String → Value → List Row
member name v = row always (key name) v ∷ []

abbrev pub member_if : Test → String → Value → List Row
member_if t name v = row t (key name) v ∷ []

-- what is absent
abbrev pub null : List ℕ
null = ascii "null"

-- a value where the number at `there` is 1, else null
abbrev pub or_null : String → ℕ → Value → List Row
or_null name there v = row (is there 1) (key name) v ∷ row (is_not there 1) (key name ++ null) nothing ∷ []

-- the number at a place, where `none` is the one that stands for none
abbrev pub unless_null : String → ℕ → ℕ → List Row
unless_null name place none = row (is_not place none) (key name) (number place) ∷ row (is place none) (key name ++ null) nothing ∷ []

-- a value where the number at a place is at least n, else null
abbrev pub least_or_null : String → ℕ → ℕ → Value → List Row
least_or_null name place n v = row (least place n) (key name) v ∷ row (below place n) (key name ++ null) nothing ∷ []

-- whether the number at a place is 1
abbrev pub flag : String → ℕ → List Row
flag name place = row (is place 1) (key name ++ ascii "true") nothing ∷ row (is_not place 1) (key name ++ ascii "false") nothing ∷ []

-- a word for each number from n on
abbrev pub words_from : ℕ → ℕ → List String → List Row
words_from place n [] = []
words_from place n (w ∷ l) = row (is place n) (ascii w) nothing ∷ words_from place (suc n) l

-- the same as a member's value in quotes
abbrev pub quoted_from : String → ℕ → ℕ → List String → List Row
quoted_from name place n [] = []
quoted_from name place n (w ∷ l) = row (is place n) (key name ++ ascii "\"" ++ ascii w ++ ascii "\"") nothing ∷ quoted_from name place (suc n) l

-- words one after the other
abbrev pub words_always : List String → List Row
words_always [] = []
words_always (w ∷ l) = words w ++ words_always l

-- rows for the numbers from `low` up to the one before `high`
abbrev pub between : ℕ → ℕ → ℕ → List Row → List Row
between place low high rows = group (least place low) (group (below place high) rows)

-- ten types of ship of one kind, from n on: its name, and what the AIVDM description's table has after it
abbrev pub kind_rows : ℕ → ℕ → String → String → List Row
kind_rows place n name last =
    between place n (n + 10)
    (words name
    ++ words_from place n hazards
    ++ between place (n + 5) (n + 9) (words_always reserved)
    ++ words_if (is place (n + 9)) last)
