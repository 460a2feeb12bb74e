-- `json_told::is_another` meets its contract. Assumes nothing.
use borrow.Author.Tests.{eq-eqb, ne_eqb}
use Rattle.json_told.proofs.is_another.Goals as goal

pub returns-then-code-eq2 : goal.returns-then-code-eq2
returns-then-code-eq2 c = rw (eq-eqb _ 2 c.if-code-eq2.true) c.is_other.ensures

pub returns : goal.returns
returns c = rw (ne_eqb _ 2 c.if-code-eq2.false)
