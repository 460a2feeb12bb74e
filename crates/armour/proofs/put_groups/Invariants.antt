-- `put_groups`: the first k groups stand there, and all further bytes as they were. Assumes nothing.
use mathlib.Core.Path.{◌≡◌}
use mathlib.Core.List.{◌++◌}
use Prim.Native.Nat.{ℕ, ◌*◌}
use lib.ListN.{length, drop}
use Rattle.parsers.specs.Bits.{pack}
use Rattle.armour.specs.Spread.{Sixes}
use Rattle.armour.proofs.put_groups.Given as goal

abbrev pub invariant-loop-k : goal.invariant-loop-k
invariant-loop-k l = (length l.out ≡ length l.initial.out) × ((f : ℕ → ℕ) → Sixes f l.s → l.out ≡ pack 8 (l.k * 3) f ++ drop (l.k * 3) l.initial.out)
