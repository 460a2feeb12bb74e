-- `trailing`: what is left of the characters, trimmed, is the characters trimmed. Assumes nothing.
use mathlib.Core.Path.{◌≡◌}
use Prim.Native.Nat.{◌+◌, ◌*◌}
use Rattle.parsers.specs.Text.{chars_of, trim_end}
use Rattle.parsers.proofs.trailing.Given as goal

abbrev pub invariant-loop-i : goal.invariant-loop-i
invariant-loop-i l = trim_end l.c (chars_of l.bytes (l.at + l.start * 6) l.i) ≡ trim_end l.c (chars_of l.bytes (l.at + l.start * 6) l.count)
