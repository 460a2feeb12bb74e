-- `until` meets its contract: the first place that holds the byte is the same from each place passed. Assumes nothing.
use mathlib.Core.Path.{◌≡◌}
use Prim.Native.Nat.{◌+◌, ◌-◌, ◌≤◌}
use lib.ListN.{length}
use Rattle.scan.specs.Scan.{first_at}
use Rattle.scan.proofs.until.Given as goal

abbrev pub invariant-loop-i : goal.invariant-loop-i
invariant-loop-i l = (first_at l.b l.line l.i ≡ first_at l.b l.line l.at) × (l.i ≤ l.at + (length l.line - l.at))
