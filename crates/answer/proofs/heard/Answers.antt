-- `heard`: the fields as they were read, with the payload's true type and sent bits. Assumes nothing.
use Rattle.answer.proofs.heard.Goals as goal

pub returns : goal.returns
returns c = rw (c.true_type-true_type.ensures, c.sent_bits-sent_bits.ensures)
