-- `decoding::turn` meets its contract. Assumes nothing.
use Rattle.decoding.proofs.Laws.{turned}
use Rattle.decoding.proofs.turn.Goals as goal

pub returns : goal.returns
returns c = turned _ _ _ _ _ _ _ _ _ _ _ _ _ _ _ c.take_line-t.ensures c.answer_next.ensures
