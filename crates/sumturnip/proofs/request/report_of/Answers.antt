-- `sumturnip::request::report_of` meets its contract. Assumes nothing.
use native.Mathlib.Omega.{arith}
use Rattle.sumturnip.specs.Request.{report_by}
use Rattle.sumturnip.proofs.Laws.{no_report_lem}
use Rattle.sumturnip.proofs.request.report_of.Goals as goal

pub returns-in-1 : goal.returns-in-1
unfolding report_by
returns-in-1 c = rw c.in-1.is

pub returns-in-2 : goal.returns-in-2
unfolding report_by
returns-in-2 c = rw c.in-2.is

pub returns-in_default : goal.returns-in_default
returns-in_default c = rw (no_report_lem c.args.n (λ p. omega arith))
