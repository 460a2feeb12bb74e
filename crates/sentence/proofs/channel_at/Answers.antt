-- `channel_at` meets its contract. Assumes nothing.
use borrow.Author.Tests.{lt-ltb, le-ltb}
use Rattle.sentence.proofs.channel_at.Goals as goal

pub returns-then-at-end : goal.returns-then-at-end
returns-then-at-end c = rw (lt-ltb _ _ c.if-at-end.true)

pub returns : goal.returns
returns c = rw (le-ltb _ _ c.if-at-end.false)
