-- `all_armour`: each byte in turn tells whether the first bad one stands later. Assumes nothing.
use mathlib.Core.Path.{◌≡◌}
use lib.Dec.{leb}
use Rattle.armour.specs.Armour.{first_bad}
use Rattle.armour.proofs.all_armour.Given as goal

abbrev pub invariant-loop-b : goal.invariant-loop-b
invariant-loop-b l = l.good ≡ leb l.b-index (first_bad l.payload)
