-- A message in the words of the comparing protocol, by its kind: 1 a position report, 2 a static data report, 3 an interrogation.
use Rattle.std.specs.Prelude.{ℕ, List, eqb, get_or}
use Rattle.refusal.specs.Words.{pick}
use Rattle.face_rows.specs.Rows.{Row, printed}
use Rattle.layout_numbers.specs.Places.{kind}
use Rattle.trace_show.specs.Tables.{position_table, static_table, asked_table, none_table}

abbrev pub table_of : ℕ → List Row
table_of k = pick (eqb k 1) position_table (pick (eqb k 2) static_table (pick (eqb k 3) asked_table none_table))

unfoldable pub message_words : List ℕ → List ℕ → List ℕ
message_words numbers texts = printed (table_of (get_or numbers kind 0)) numbers texts
