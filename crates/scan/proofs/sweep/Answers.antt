-- `sweep`: what is left, onto the sum, gives the same from each place passed; each byte tells whether a star stands no later. Assumes nothing.
use mathlib.Core.Path.{sym, ap, ◌∙◌}
use mathlib.Core.Bool.{Bool, ◌||◌}
use native.Mathlib.Omega.{arith}
use lib.Dec.{eqb}
use lib.ListN.{get_or}
use Rattle.scan.specs.Scan.{star}
use Rattle.scan.proofs.Steps.{xor-next, xor-end, among_next}
use Rattle.scan.proofs.sweep.Goals as goal

pub loop-b-preserved : goal.loop-b-preserved
loop-b-preserved c = (
  xor-next c.loop-b.sum c.args.part.now c.loop-b.b-index (omega arith) ∙ c.loop-b.invariant.0,
  ap (λ (f : Bool). f || eqb (get_or c.args.part.now c.loop-b.b-index 0) star) c.loop-b.invariant.1
      ∙ among_next star c.args.part.now c.loop-b.b-index (omega arith),
)

pub returns-clause-sum_value : goal.returns-clause-sum_value
returns-clause-sum_value c = sym (xor-end c.loop-b.sum c.args.part.now c.loop-b.b-index (omega arith)) ∙ c.loop-b.invariant.0
