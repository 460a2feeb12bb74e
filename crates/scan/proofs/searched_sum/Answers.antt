-- `searched_sum`: the exclusive or up to the place found. Assumes nothing.
use Rattle.scan.proofs.Steps.{sum_none, sum_found}
use Rattle.scan.proofs.searched_sum.Goals as goal

pub returns-then-line-end : goal.returns-then-line-end
returns-then-line-end c = sum_none c.args.line.now c.args.at _ c.take_until-end.ensures c.if-line-end.true

pub returns : goal.returns
returns c = sum_found c.args.line.now c.args.at _ c.take_until-end.ensures _ c.if-line-end.false c.exclusive_or.ensures
