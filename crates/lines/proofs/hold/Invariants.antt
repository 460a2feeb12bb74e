-- `lines::hold` meets its contract: with each byte, what is held and the bytes left come to the same. Assumes nothing.
use Rattle.std.proofs.Common.{◌≡◌, ◌≤◌, ◌+◌, ◌++◌, length, drop}
use Rattle.lines.specs.Held.{kept_of, held_of}
use Rattle.lines.proofs.hold.Given as goal

abbrev pub invariant-loop-b : goal.invariant-loop-b
invariant-loop-b l =
    (kept_of l.most (held_of l.most l.n l.line ++ drop l.b-index l.bytes) l.line ≡ kept_of l.most (held_of l.most l.len l.initial.line ++ l.bytes) l.initial.line)
    × (length l.line ≡ length l.initial.line)
    × (l.n ≤ l.most + 2)
