-- `skip_blocks`: sixteen bytes that do not hold the byte leave the place where it is found. Assumes nothing.
use mathlib.Core.Path.{sym, ◌∙◌}
use Prim.Native.Nat.{◌+◌}
use native.Mathlib.Omega.{arith}
use Rattle.scan.proofs.Steps.{none_in_block}
use Rattle.scan.proofs.skip_blocks.Goals as goal

pub loop-i-preserved : goal.loop-i-preserved
loop-i-preserved c =
    none_in_block c.args.b c.args.line.now c.loop-i.i (c.loop-i.i + 16) (omega arith) (omega arith) (sym c.in_block.ensures ∙ c.if-in_block.false)
    ∙ c.loop-i.invariant
