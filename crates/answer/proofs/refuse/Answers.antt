-- `refuse`: as it is told plainly. Assumes nothing.
use mathlib.Core.Path.{◌∙◌}
use Rattle.answer.proofs.refuse.Goals as goal

pub returns : goal.returns
returns c = c.whole.ensures ∙ c.refuse_plainly.ensures
