-- `sumturnip::request::channel_of` meets its contract. Assumes nothing.
use borrow.Author.Tests.{ne_eqb}
use Rattle.sumturnip.specs.Request.{channel_by}
use Rattle.sumturnip.proofs.request.channel_of.Goals as goal

pub returns-then-there-eq1 : goal.returns-then-there-eq1
unfolding channel_by
returns-then-there-eq1 c = rw (c.if-there-eq1.true, c.byte_of.ensures)

pub returns-then-there-ne0 : goal.returns-then-there-ne0
unfolding channel_by
returns-then-there-ne0 c = rw (ne_eqb _ _ c.if-there-eq1.false, ne_eqb _ _ c.if-there-ne0.true)

pub returns-then-n-ne0 : goal.returns-then-n-ne0
unfolding channel_by
returns-then-n-ne0 c = rw (c.if-there-ne0.false, ne_eqb _ _ c.if-n-ne0.true)

pub returns : goal.returns
unfolding channel_by
returns c = rw (c.if-there-ne0.false, c.if-n-ne0.false)
