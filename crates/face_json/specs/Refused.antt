-- A refused line as a JSON object: its number, document 01's number and values, a reason in words, and the line's own text.
use Rattle.std.specs.Prelude.{List, ◌++◌}
use Rattle.face_rows.specs.Rows.{is, is_not, least, number, pair, quoted, Row, group}
use Rattle.layout_numbers.specs.Places.{first_value, second_value, line, code, value_count, text_length, the_text_cut, sender_there, sender, another_kind, text_start}
use Rattle.face_rows.specs.Reasons.{reasons}
use Rattle.face_members.specs.Members.{words, words_if, value_if, member, member_if, words_from}

-- "An array structure is represented as square brackets surrounding zero or more values" (RFC 8259): a refusal returns at most two
abbrev pub values_table : List Row
values_table =
    words ",\"values\":["
    ++ value_if (least value_count 1) "" (number first_value)
    ++ value_if (least value_count 2) "," (number second_value)
    ++ words "]"

-- refusal 3: the checksum that stands in the line and the one found, as a line has them
abbrev pub checksum_table : List Row
checksum_table =
    value_if (is code 3) ",\"checksum\":\"" (pair first_value) ++ value_if (is code 3) "\",\"computed\":\"" (pair second_value) ++ words_if (is code 3) "\""

-- refusal 10: the type, and the sender where its bits are there
abbrev pub type_table : List Row
type_table = member_if (is code 10) "type" (number first_value) ++ member_if (is sender_there 1) "mmsi" (number sender)

-- the reason of its number
abbrev pub reason_table : List Row
reason_table = words_if (is another_kind 1) "NMEA sentence of another kind" ++ group (is_not another_kind 1) (words_from code 1 reasons)

abbrev pub refused_table : List Row
refused_table =
    words "{\"class\":\"ERROR\""
    ++ member "line" (number line)
    ++ member "refusal" (number code)
    ++ values_table
    ++ checksum_table
    ++ type_table
    ++ words ",\"message\":\""
    ++ reason_table
    ++ words "\""
    ++ member "text" (quoted text_length text_start)
    ++ words_if (is the_text_cut 1) ",\"text_cut\":true"
    ++ words "}\n"
