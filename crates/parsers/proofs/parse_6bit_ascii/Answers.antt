-- `parse_6bit_ascii`: the three trimmings, each by what its scan found. Assumes nothing.
use Rattle.parsers.specs.Text.{text_of}
use borrow.Author.Tests.{le-leb, lt-leb}
use Rattle.parsers.proofs.parse_6bit_ascii.Goals as goal

pub returns-then-count-gt20 : goal.returns-then-count-gt20
unfolding text_of
returns-then-count-gt20 c = rw (lt-leb _ 20 c.if-count-gt20.true)

pub returns : goal.returns
unfolding text_of
returns c =
    rw (
      le-leb _ 20 c.if-count-gt20.false,
      c.leading-start.ensures.is,
      c.trailing-named.ensures.is,
      c.trailing-kept.ensures.is,
    )
    c.spell.ensures
