-- `spell`: the characters stand first, zeros after them. Assumes nothing.
use Prim.Native.Nat.{◌+◌, ◌*◌}
use mathlib.Core.Path.{◌≡◌}
use mathlib.Core.List.{◌++◌}
use lib.ListN.{length, drop, replicate}
use Rattle.parsers.specs.Text.{chars_of}
use Rattle.parsers.proofs.spell.Given as goal

abbrev pub invariant-loop-i : goal.invariant-loop-i
invariant-loop-i l = (length l.out ≡ 20) × (l.out ≡ chars_of l.bytes (l.at + l.start * 6) l.i ++ drop l.i (replicate 20 0))
