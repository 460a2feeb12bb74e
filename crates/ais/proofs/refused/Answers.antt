-- `refused`: the refusal, beside the record. Assumes nothing.
use mathlib.Core.Path.{ap}
use Rattle.ais.specs.Parts.{stepped}
use Rattle.ais.proofs.refused.Goals as goal

pub returns : goal.returns
returns c = ap (stepped c.args.state) c.refuse-answer.ensures
