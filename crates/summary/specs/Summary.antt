-- The counts as text, for whoever started the program: an item a line, and none for a count of 0 but that of all lines.
use Rattle.std.specs.Prelude.{ℕ, suc, List, [], ◌∷◌, ◌++◌, take, drop}
use Prim.Native.String.{String}
use Rattle.text_out.specs.Text.{ascii}
use Rattle.text_out.specs.Digits.{decimal_of}
use Rattle.face_rows.specs.Rows.{always, least, nothing, number, Row, row, printed}
use Rattle.face_rows.specs.Reasons.{reasons}
use Rattle.summary.specs.Tally.{the_all_lines, unfinished, another_kind}

-- the messages of a type: 128 and the type
abbrev pub type1 : ℕ
type1 = 129

abbrev pub type2 : ℕ
type2 = 130

abbrev pub type3 : ℕ
type3 = 131

abbrev pub type15 : ℕ
type15 = 143

abbrev pub type24 : ℕ
type24 = 152

-- words and the count at a place
abbrev pub first : String → ℕ → List Row
first w place = row always (ascii w ++ ascii ": ") (number place) ∷ []

-- the same on a new line, where the count is not 0
abbrev pub item : String → ℕ → List Row
item w place = row (least place 1) (ascii "\n" ++ ascii w ++ ascii ": ") (number place) ∷ []

-- an item for each refusal from n on, with its number and its reason
abbrev pub refused_from : ℕ → List String → List Row
refused_from n [] = []
refused_from n (w ∷ l) =
    row (least n 1) (ascii "\nrefused " ++ decimal_of n ++ ascii ", " ++ ascii w ++ ascii ": ") (number n) ∷ refused_from (suc n) l

-- words alone
abbrev pub words : String → List Row
words w = row always (ascii w) nothing ∷ []

abbrev pub summary_table : List Row
summary_table =
    first "lines" the_all_lines
    ++ item "type 1" type1
    ++ item "type 2" type2
    ++ item "type 3" type3
    ++ item "type 15" type15
    ++ item "type 24" type24
    ++ item "unfinished" unfinished
    ++ refused_from 1 (take 2 reasons)
    ++ item "  of these NMEA sentences of another kind" another_kind
    ++ refused_from 3 (drop 2 reasons)
    ++ words "\n"

unfoldable pub summary_of : List ℕ → List ℕ
summary_of tally = printed summary_table tally []
