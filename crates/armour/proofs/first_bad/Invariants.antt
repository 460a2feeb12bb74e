-- `first_bad`: what is left of the payload has its first bad byte where the whole has it. Each `break` is a return. Assumes nothing.
use mathlib.Core.Path.{◌≡◌}
use Prim.Native.Nat.{◌+◌, ◌-◌, ◌≤◌}
use lib.ListN.{length, drop}
use Rattle.armour.specs.Armour.{first_bad}
use Rattle.armour.proofs.first_bad.Given as goal

abbrev pub invariant-loop-i : goal.invariant-loop-i
invariant-loop-i l = (l.i ≤ length l.payload) × (first_bad l.payload ≡ l.i + first_bad (drop l.i l.payload))

abbrev pub decreases-loop-i : goal.decreases-loop-i
decreases-loop-i l = length l.payload - l.i
