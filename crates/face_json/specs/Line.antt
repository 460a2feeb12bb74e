-- A complete message, and a refused line, as a line of JSON, from its layout.
use Rattle.std.specs.Prelude.{ℕ, List, eqb, get_or}
use Rattle.refusal.specs.Words.{pick}
use Rattle.face_rows.specs.Rows.{Row, printed}
use Rattle.layout_numbers.specs.Places.{kind, part}
use Rattle.face_json.specs.Tables.{nothing_table, position_table, craft_table, static_table, asked_table}
use Rattle.face_json.specs.Refused.{refused_table}

-- the kinds of message: 1 a position report, 2 a static data report, of which part 1 has a table of its own, 3 an interrogation
abbrev pub table_of : ℕ → ℕ → List Row
table_of k p =
    pick (eqb k 1) position_table (pick (eqb k 2) (pick (eqb p 1) craft_table static_table) (pick (eqb k 3) asked_table nothing_table))

unfoldable pub message_line : List ℕ → List ℕ → List ℕ
message_line numbers texts = printed (table_of (get_or numbers kind 0) (get_or numbers part 0)) numbers texts

unfoldable pub refused_line : List ℕ → List ℕ → List ℕ
refused_line numbers texts = printed refused_table numbers texts
