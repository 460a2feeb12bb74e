-- `face_json::put_refused` meets its contract. Assumes nothing.
use Rattle.std.proofs.Common.{rules}
use Rattle.face_rows.specs.Code.{rows_in}
use Rattle.face_json.specs.Line.{refused_line}
use Rattle.face_json.proofs.put_refused.Goals as goal

pub returns : goal.returns
unfolding rows_in refused_line
returns c = record { same = search rules; is = c.put_rows.ensures.is }
