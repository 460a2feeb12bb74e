-- `unfinished_plainly`: a line that is taken, and not finished. Assumes nothing.
use Rattle.answer.specs.Answer.{unfinished_of}
use Rattle.answer.proofs.unfinished_plainly.Goals as goal

pub returns : goal.returns
unfolding unfinished_of
returns c = c.taken.ensures
