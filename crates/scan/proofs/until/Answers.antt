-- `until` meets its contract: the first place that holds the byte is the same from each place passed. Assumes nothing.
use native.Mathlib.Omega.{arith}
use Rattle.scan.proofs.Steps.{before_here, before-next, before-end}
use Rattle.scan.proofs.until.Goals as goal

pub returns-then-line-i : goal.returns-then-line-i
returns-then-line-i c = omega (arith, c.loop-i.invariant.0, before_here c.args.b c.args.line.now c.loop-i.i c.loop-i-test.true c.if-line-i.true)

pub loop-i-preserved : goal.loop-i-preserved
loop-i-preserved c = (
  omega (arith, c.loop-i.invariant.0, before-next c.args.b c.args.line.now c.loop-i.i c.loop-i-test.true c.if-line-i.false),
  omega arith,
)

pub returns : goal.returns
returns c = omega (arith, c.max.ensures, c.loop-i.invariant, before-end c.args.b c.args.line.now c.loop-i.i c.loop-i-test.false)
