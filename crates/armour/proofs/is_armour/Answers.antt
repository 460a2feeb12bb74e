-- `is_armour`: the two ranges. Assumes nothing.
use Rattle.refusal.specs.Words.{within}
use Rattle.armour.proofs.Laws.{armour-is}
use Rattle.armour.proofs.is_armour.Goals as goal

pub returns : goal.returns
unfolding within
returns c = armour-is _
