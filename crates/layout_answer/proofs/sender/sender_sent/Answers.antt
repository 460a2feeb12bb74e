-- `layout_answer::sender::sender_sent` meets its contract. Assumes nothing.
use Rattle.layout_answer.specs.Sender.{plain_of}
use Rattle.layout_answer.proofs.Senders.{short-sender, long_sender}
use Rattle.layout_answer.proofs.sender.sender_sent.Goals as goal

pub returns-then-s-lt38 : goal.returns-then-s-lt38
unfolding plain_of
returns-then-s-lt38 c = short-sender c.step-s.result c.step-s.ensures c.if-s-lt38.true

pub returns : goal.returns
unfolding plain_of
returns c = long_sender c.step-s.result c.step-s.ensures c.if-s-lt38.false c.mmsi_of.ensures
