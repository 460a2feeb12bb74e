-- `all_armour`: each byte in turn tells whether the first bad one stands later. Assumes nothing.
use mathlib.Core.Path.{◌≡◌, sym, ap, ◌∙◌}
use mathlib.Core.Bool.{Bool, ◌&&◌}
use Prim.Native.Nat.{ℕ}
use native.Mathlib.Omega.{arith}
use borrow.Author.Tests.{le-leb}
use lib.Dec.{leb}
use lib.ListN.{length}
use Rattle.armour.specs.Armour.{first_bad}
use Rattle.armour.proofs.Laws.{good_next}
use Rattle.armour.proofs.all_armour.Goals as goal

pub loop-b-init : goal.loop-b-init
loop-b-init c = sym (le-leb 0 (first_bad c.args.payload.now) (omega arith))

pub loop-b-preserved : goal.loop-b-preserved
loop-b-preserved c =
    ap (λ (t : Bool). t && c.is_armour-good.result) c.loop-b.invariant ∙ ap (λ (t : Bool). leb c.loop-b.b-index (first_bad c.args.payload.now) && t) c.is_armour-good.ensures
    ∙ good_next c.args.payload.now c.loop-b.b-index (omega arith)

pub returns : goal.returns
returns c =
    let e : c.loop-b.b-index ≡ length c.args.payload.now = omega arith in
    c.loop-b.invariant ∙ ap (λ (n : ℕ). leb n (first_bad c.args.payload.now)) e
