-- `face_rows::put_rows` meets its contract: what is put so far and what the rows that are left print, but for those left out, are the whole. Assumes nothing.
use mathlib.Core.Path.{◌≡◌}
use lib.ListN.{drop}
use Rattle.text_out.specs.Text.{put}
use Rattle.text_out.specs.Output.{stands}
use Rattle.face_rows.specs.Rows.{printed, printed_from}
use Rattle.face_rows.specs.Code.{rows_in}
use Rattle.face_rows.proofs.put_rows.Given as goal

abbrev pub invariant-loop-row : goal.invariant-loop-row
invariant-loop-row l = record {
  same : l.out.buffer.ghost_name ≡ l.initial.out.buffer.ghost_name;
  is : put (stands l.out) (printed_from l.skip (rows_in (drop l.row-index l.rows)) l.numbers l.texts) ≡ put (stands l.initial.out) (printed (rows_in l.rows) l.numbers l.texts);
}
