-- `whole`: the parts of a plain answer, and no message. Assumes nothing.
use Rattle.answer.proofs.whole.Goals as goal

pub returns : goal.returns
returns c = rw c.nothing-message.ensures
