-- `complete`: decoded, or as it is told plainly. Assumes nothing.
use Rattle.answer.proofs.complete.Goals as goal

pub returns-in-On : goal.returns-in-On
returns-in-On c = rw c.in-On.is c.decoded.ensures

pub returns-in-Off : goal.returns-in-Off
returns-in-Off c =
    rw (c.in-Off.is, c.whole.ensures)
    (c.complete_plainly.ensures c.args.bits.now)
