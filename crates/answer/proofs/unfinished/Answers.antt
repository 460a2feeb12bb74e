-- `unfinished`: as it is told plainly. Assumes nothing.
use Rattle.answer.proofs.unfinished.Goals as goal

pub returns : goal.returns
returns c = λ bits. rw c.whole.ensures (c.unfinished_plainly.ensures bits)
