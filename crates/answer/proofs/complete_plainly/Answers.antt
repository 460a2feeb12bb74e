-- `complete_plainly`: a line that is taken, and finished. Assumes nothing.
use Rattle.answer.specs.Answer.{complete_of}
use Rattle.answer.proofs.complete_plainly.Goals as goal

pub returns : goal.returns
unfolding complete_of
returns c = c.taken.ensures
