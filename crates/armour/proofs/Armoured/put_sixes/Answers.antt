-- `put_sixes`: the first i characters stand there, and zeros after them; the last has the fill cleared. Assumes nothing.
use mathlib.Core.Path.{◌≡◌, ◌∙◌}
use Prim.Native.Nat.{◌+◌, ◌-◌}
use native.Mathlib.Omega.{arith}
use lib.ListN.{length}
use Rattle.armour.proofs.Sixes.{begun, begun_more, good, inner, last, all}
use Rattle.armour.proofs.Armoured.put_sixes.Goals as goal

pub returns-then-payload-eq0 : goal.returns-then-payload-eq0
returns-then-payload-eq0 c = all c.args.self.now.payload.now c.args.self.now.fill c.args.self.now.spreads (length c.args.out.now) 0 _ (omega arith) (begun _ _ _ c.requires.1)

pub loop-i-init : goal.loop-i-init
loop-i-init c = begun _ _ _ c.requires.1

pub loop-i-preserved : goal.loop-i-preserved
loop-i-preserved c = begun_more _ _ c.loop-i.i _ c.loop-i.out c.loop-i.invariant (omega (arith, c.requires.0)) (c.value.ensures ∙ inner _ _ c.args.self.now.spreads c.loop-i.i (omega arith))

pub returns : goal.returns
returns c =
    let n = length c.args.self.now.payload.now - 1 in
    let e : c.loop-i.i ≡ n = omega arith in
    let six = c.last_six.ensures ∙ last _ _ c.args.self.now.spreads n (omega arith) in
    let begun = begun_more _ _ n _ c.loop-i.out (rw e at c.loop-i.invariant) (omega (arith, c.requires.0)) six in
    all c.args.self.now.payload.now c.args.self.now.fill c.args.self.now.spreads (length c.args.out.now) (n + 1) _ (omega arith) begun

pub value-requires : goal.value-requires
value-requires c = good _ _ c.args.self.now.spreads c.loop-i.i (omega arith)

pub last_six-requires : goal.last_six-requires
last_six-requires c = (good _ _ c.args.self.now.spreads _ (omega arith), omega (arith, c.args.self.now.spreads.filled))
