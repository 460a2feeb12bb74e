-- `record_bytes::number_by` meets its contract. Assumes nothing.
use borrow.Author.Tests.{eq-eqb, ne_eqb}
use Rattle.record_bytes.proofs.number_by.Goals as goal

pub returns-then-there-eq0 : goal.returns-then-there-eq0
returns-then-there-eq0 c = rw (eq-eqb c.args.there 0 c.if-there-eq0.true)

pub returns : goal.returns
returns c = rw (ne_eqb c.args.there 0 c.if-there-eq0.false)
