-- `tag` meets its contract. Assumes nothing.
use borrow.Author.Tests.{lt-ltb, le-ltb, eq-eqb, ne_eqb}
use Rattle.scan.specs.Scan.{byte}
use Rattle.scan.proofs.tag.Goals as goal
use Rattle.scan.proofs.tag.Goals.{else-at-line-via-then-at-line+else-line-at, else-at-line-via-else-at-line}

pub returns-then-line-at : goal.returns-then-line-at
unfolding byte
returns-then-line-at c = rw (lt-ltb _ _ c.if-at-line.true, eq-eqb _ _ c.if-line-at.true)

pub returns : goal.returns
unfolding byte
returns c =
    elim c.else-at-line.branch [
      | else-at-line-via-then-at-line+else-line-at w ↦ rw (lt-ltb _ _ w.if-at-line.true, ne_eqb _ _ w.if-line-at.false)
      | else-at-line-via-else-at-line w ↦ rw (le-ltb _ _ w.if-at-line.false)
    ]
