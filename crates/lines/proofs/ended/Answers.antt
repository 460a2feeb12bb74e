-- `lines::ended` meets its contract. Assumes nothing.
use mathlib.Core.Path.{sym}
use borrow.Author.Tests.{le-leb, lt-leb}
use Rattle.lines.specs.Collect.{event_of}
use Rattle.lines.proofs.ended.Goals as goal

pub returns-then-n-most : goal.returns-then-n-most
unfolding event_of
returns-then-n-most c = rw (sym c.line_len-n.ensures, le-leb _ _ c.if-n-most.true)

pub returns-else-n-most : goal.returns-else-n-most
unfolding event_of
returns-else-n-most c = rw (sym c.line_len-n.ensures, lt-leb _ _ c.if-n-most.false)
