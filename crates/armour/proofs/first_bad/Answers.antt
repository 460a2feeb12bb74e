-- `first_bad`: what is left of the payload has its first bad byte where the whole has it. Each `break` is a return. Assumes nothing.
use mathlib.Core.Path.{sym}
use Prim.Native.Nat.{◌<◌}
use native.Mathlib.Nat.{zero-add}
use native.Mathlib.Omega.{arith}
use lib.ListN.{get_or}
use Rattle.armour.specs.Armour.{meaning}
use Rattle.armour.proofs.Laws.{bad-end, bad-here, bad-next}
use Rattle.armour.proofs.first_bad.Goals as goal

pub loop-i-init : goal.loop-i-init
loop-i-init c = (omega arith, sym (zero-add _))

pub loop-i-preserved : goal.loop-i-preserved
loop-i-preserved c =
    let k : meaning (get_or c.args.payload.now c.loop-i.i 0) < 64 = omega (arith, c.six.ensures) in
    omega (arith, bad-next c.args.payload.now c.loop-i.i (omega arith) k)

pub returns-then-i-payload : goal.returns-then-i-payload
returns-then-i-payload c = omega (arith, bad-end c.args.payload.now c.loop-i.i c.if-i-payload.true)

pub returns-then-six-gt63 : goal.returns-then-six-gt63
returns-then-six-gt63 c = omega (arith, bad-here c.args.payload.now c.loop-i.i (omega arith) (omega (arith, c.six.ensures)))
