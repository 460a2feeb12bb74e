-- `digits` meets its contract: the digits left, after those of value v, give the same number from each byte passed. Assumes nothing.
use mathlib.Core.Path.{◌≡◌}
use Prim.Native.Nat.{◌+◌, ◌≤◌}
use lib.ListN.{length, drop}
use Rattle.scan.specs.Scan.{digits, value}
use Rattle.scan.proofs.digits.Given as goal

abbrev pub invariant-loop-b : goal.invariant-loop-b
invariant-loop-b l = (value l.radix l.v (digits l.radix (drop l.b-index l.b-items)) ≡ value l.radix 0 (digits l.radix l.b-items))
    × (l.b-index + length (digits l.radix (drop l.b-index l.b-items)) ≡ length (digits l.radix l.b-items))
    × (l.v ≤ 255)
    × (l.count ≡ l.b-index)
