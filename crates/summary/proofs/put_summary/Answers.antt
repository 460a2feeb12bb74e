-- `put_summary` meets its contract: the rows, as the code holds them, are the table. Assumes nothing.
use Rattle.std.proofs.Common.{rules}
use Rattle.face_rows.specs.Code.{rows_in}
use Rattle.text_out.specs.Digits.{decimal_in}
use Rattle.summary.specs.Summary.{summary_of}
use Rattle.summary.proofs.put_summary.Goals as goal

pub returns : goal.returns
unfolding rows_in decimal_in summary_of
returns c = record { same = search rules; is = c.put_rows.ensures.is }
