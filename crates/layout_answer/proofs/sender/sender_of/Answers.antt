-- `layout_answer::sender::sender_of` meets its contract. Assumes nothing.
use borrow.Author.Tests.{eq-eqb, ne_eqb}
use Rattle.layout_answer.proofs.sender.sender_of.Goals as goal

pub returns-then-code-eq10 : goal.returns-then-code-eq10
returns-then-code-eq10 c = rw (eq-eqb _ 10 c.if-code-eq10.true) c.sender_sent.ensures

pub returns-else-code-eq10 : goal.returns-else-code-eq10
returns-else-code-eq10 c = rw (ne_eqb _ 10 c.if-code-eq10.false)
