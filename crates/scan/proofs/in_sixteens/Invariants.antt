-- `in_sixteens`: each block tells of the bytes up to its end, since none stands before it (`among_later`). Assumes nothing.
use Prim.Native.Nat.{◌-◌, ◌≤◌}
use lib.ListN.{length}
use Rattle.scan.specs.Scan.{before}
use Rattle.scan.proofs.in_sixteens.Given as goal

abbrev pub invariant-loop-k : goal.invariant-loop-k
invariant-loop-k l = (l.k ≤ before l.b l.part) × (l.k ≤ length l.part)

abbrev pub decreases-loop-k : goal.decreases-loop-k
decreases-loop-k l = l.last - l.k
