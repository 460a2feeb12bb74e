-- `leading`: what is left of the text, trimmed, is the text trimmed. Assumes nothing.
use mathlib.Core.Path.{◌≡◌}
use Prim.Native.Nat.{◌+◌, ◌-◌, ◌*◌}
use Rattle.parsers.specs.Text.{chars_of, trim_start}
use Rattle.parsers.proofs.leading.Given as goal

abbrev pub invariant-loop-i : goal.invariant-loop-i
invariant-loop-i l = trim_start 32 (chars_of l.bytes (l.at + l.i * 6) (l.count - l.i)) ≡ trim_start 32 (chars_of l.bytes l.at l.count)
