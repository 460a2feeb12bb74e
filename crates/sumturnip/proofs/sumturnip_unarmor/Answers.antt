-- `sumturnip::sumturnip_unarmor` meets its contract. Assumes nothing.
use Rattle.sumturnip.proofs.Calls.{count-short, fills_flattened}
use Rattle.sumturnip.proofs.sumturnip_unarmor.Goals as goal

pub returns-then-answer-lt1 : goal.returns-then-answer-lt1
returns-then-answer-lt1 c = count-short _ _ _ _ c.if-answer-lt1.true

pub returns : goal.returns
returns c = fills_flattened _ _ _ _ c.if-answer-lt1.false c.unarmor-r.ensures.answers c.unarmor-r.ensures.leaves c.counted_code.ensures c.counted.ensures
