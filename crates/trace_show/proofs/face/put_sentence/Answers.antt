-- `trace_show::face::put_sentence` meets its contract. Assumes nothing.
use Rattle.face_rows.specs.Code.{rows_in}
use Rattle.trace_show.proofs.face.put_sentence.Goals as goal

pub returns : goal.returns
unfolding rows_in
returns c = c.put_rows.ensures
