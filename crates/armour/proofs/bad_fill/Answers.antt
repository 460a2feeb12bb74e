-- `bad_fill`: its two cases. Assumes nothing.
use borrow.Author.Tests.{lt-ltb, le-ltb, eq-eqb, ne_eqb}
use lib.ListN.{length}
use Rattle.armour.specs.Unarmor.{bad_fill}
use Rattle.armour.proofs.bad_fill.Goals as goal

pub returns-then-fill-gt5 : goal.returns-then-fill-gt5
unfolding bad_fill
returns-then-fill-gt5 c = simp (lt-ltb 5 c.args.fill c.if-fill-gt5.true)

pub returns-then-payload-eq0 : goal.returns-then-payload-eq0
unfolding bad_fill
returns-then-payload-eq0 c = simp (le-ltb 5 c.args.fill c.if-fill-gt5.false, eq-eqb (length c.args.payload.now) 0 c.if-payload-eq0.true)

pub returns-else-payload-eq0 : goal.returns-else-payload-eq0
unfolding bad_fill
returns-else-payload-eq0 c = simp (le-ltb 5 c.args.fill c.if-fill-gt5.false, ne_eqb (length c.args.payload.now) 0 c.if-payload-eq0.false)
