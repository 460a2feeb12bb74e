-- `face_rows::put_row` meets its contract. Assumes nothing.
use Rattle.std.proofs.Common.{rules}
use Rattle.text_out.proofs.Laws.{put_then}
use Rattle.face_rows.proofs.put_row.Goals as goal

pub returns : goal.returns
returns c = record { same = search rules; is = put_then _ c.args.word.now _ c.put_bytes.ensures.is c.put_value.ensures.is }
