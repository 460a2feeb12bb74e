-- Counts of lines by what was answered: a list of numbers of 64 bits. At 0 stand all lines, at 1 to 99 those refused with that number, at 100 those of an
-- unfinished message, at 101 those refused with 2 that are NMEA sentences of another kind, and from 128 on the complete messages by their type.
use Rattle.std.specs.Prelude.{ℕ, ◌+◌, ◌-◌, ◌^◌, List, ltb, leb, eqb, get_or, set}
use Rattle.refusal.specs.Words.{pick}

abbrev pub the_all_lines : ℕ
the_all_lines = 0

abbrev pub unfinished : ℕ
unfinished = 100

abbrev pub another_kind : ℕ
another_kind = 101

abbrev pub types : ℕ
types = 128

-- the largest number of 64 bits
abbrev pub most : ℕ
most = 2 ^ 64 - 1

-- one more, but none more than the largest number
abbrev pub the_one_more : ℕ → ℕ
the_one_more n = pick (ltb n most) (n + 1) n

-- one more at a place; a place beyond the end is left out
unfoldable pub bumped : List ℕ → ℕ → List ℕ
bumped tally place = set tally place (the_one_more (get_or tally place 0))

-- a line more, by the layout's code: 0 a complete message of some type, of six bits, 100 an unfinished one, else document 01's number
unfoldable pub counted_of : List ℕ → ℕ → ℕ → List ℕ
counted_of tally code type =
    let all = bumped tally the_all_lines in
    pick (eqb code 0) (pick (ltb type 64) (bumped all (types + type)) all) (pick (leb code unfinished) (bumped all code) all)
