-- `decoding::answer_next` meets its contract. Assumes nothing.
use Rattle.decoding.proofs.Laws.{line-told, long_told}
use Rattle.decoding.proofs.answer_next.Goals as goal

pub returns-in-Line : goal.returns-in-Line
returns-in-Line c = line-told _ _ _ _ _ _ _ _ _ _ _ c.in-Line.is c.answer_line.ensures.tally_after c.answer_line.ensures.number_value

pub returns-in-TooLong : goal.returns-in-TooLong
returns-in-TooLong c = long_told _ _ _ _ _ _ _ _ _ _ c.in-TooLong.is (c.answer_long.ensures.by_index _) c.answer_long.ensures.number_value

pub returns-in-Nothing : goal.returns-in-Nothing
returns-in-Nothing c = rw c.in-Nothing.is

pub returns-in-Room : goal.returns-in-Room
returns-in-Room c = rw c.in-Room.is
