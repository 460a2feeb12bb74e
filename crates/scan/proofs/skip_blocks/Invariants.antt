-- `skip_blocks`: sixteen bytes that do not hold the byte leave the place where it is found. Assumes nothing.
use mathlib.Core.Path.{◌≡◌}
use Prim.Native.Nat.{◌-◌}
use lib.ListN.{length}
use Rattle.scan.specs.Scan.{first_at}
use Rattle.scan.proofs.skip_blocks.Given as goal

abbrev pub invariant-loop-i : goal.invariant-loop-i
invariant-loop-i l = first_at l.b l.line l.i ≡ first_at l.b l.line l.at

abbrev pub decreases-loop-i : goal.decreases-loop-i
decreases-loop-i l = length l.line - l.i
