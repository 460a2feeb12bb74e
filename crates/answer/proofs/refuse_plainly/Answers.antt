-- `refuse_plainly` meets its contract. Assumes nothing.
use Rattle.answer.proofs.refuse_plainly.Goals as goal

pub returns : goal.returns
returns c = rw c.no_sentence-sentence.ensures
