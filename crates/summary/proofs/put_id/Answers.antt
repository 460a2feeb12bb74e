-- `summary::put_id` meets its contract. Assumes nothing.
use Rattle.std.proofs.Common.{rules}
use mathlib.Core.Path.{sym}
use Rattle.text_out.proofs.Laws.{put-nothing}
use Rattle.summary.proofs.put_id.Goals as goal

pub returns-in-None : goal.returns-in-None
returns-in-None c = record { same = search rules; is = rw c.in-None.is (sym (put-nothing _)) }

pub returns-in-Some : goal.returns-in-Some
returns-in-Some c = record { same = search rules; is = rw c.in-Some.is c.put_number.ensures.is }
