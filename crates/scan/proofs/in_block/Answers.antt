-- `in_block`: each byte in turn tells whether the first one sought stands no later. Assumes nothing.
use mathlib.Core.Path.{ap, ◌∙◌}
use mathlib.Core.Bool.{Bool, ◌||◌}
use native.Mathlib.Omega.{arith}
use lib.Dec.{eqb}
use lib.ListN.{get_or}
use Rattle.scan.proofs.Steps.{among_next}
use Rattle.scan.proofs.in_block.Goals as goal

pub loop-x-preserved : goal.loop-x-preserved
loop-x-preserved c =
    ap (λ (f : Bool). f || eqb (get_or c.args.part.now c.loop-x.x-index 0) c.args.b) c.loop-x.invariant
    ∙ among_next c.args.b c.args.part.now c.loop-x.x-index (omega arith)
