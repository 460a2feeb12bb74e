-- `window`: each turn joins one byte more (`val-join`). Assumes nothing.
use mathlib.Core.Path.{◌≡◌}
use Prim.Native.Nat.{◌*◌}
use Rattle.parsers.specs.Bits.{val, bit_at}
use Rattle.parsers.proofs.window.Given as goal

abbrev pub invariant-loop-k : goal.invariant-loop-k
invariant-loop-k l = l.acc ≡ val (bit_at 8 l.bytes) (l.first * 8) (l.k * 8)
