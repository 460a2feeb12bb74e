-- `trace_show::untouched` meets its contract: the rest is untouched if the whole is. Assumes nothing.
use native.Mathlib.Omega.{arith}
use mathlib.Core.Path.{◌∙◌}
use Rattle.trace_show.proofs.Laws.{touched, untouched_next, untouched_end}
use Rattle.trace_show.proofs.untouched.Goals as goal

pub returns-then-lent-i : goal.returns-then-lent-i
returns-then-lent-i c = touched c.args.lent.now c.loop-i.i (omega arith) c.if-lent-i.true ∙ c.loop-i.invariant

pub loop-i-preserved : goal.loop-i-preserved
loop-i-preserved c = untouched_next c.args.lent.now c.loop-i.i (omega arith) c.if-lent-i.false ∙ c.loop-i.invariant

pub returns : goal.returns
returns c = untouched_end c.args.lent.now c.loop-i.i (omega arith) ∙ c.loop-i.invariant
