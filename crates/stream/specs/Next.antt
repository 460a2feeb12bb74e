-- The next line of a block of input, over what a collector does.
use Rattle.std.specs.Prelude.{ℕ, Bool, List, length, take}
use Rattle.refusal.specs.Words.{pick}
use Rattle.lines.specs.declared.Event.{Event}
use Rattle.lines.specs.Collect.{collect_of, last_of, next_of}
use Rattle.stream.specs.declared.Input.{Input}
use Rattle.stream.specs.declared.Next.{Next}
use Rattle.stream.specs.declared.Taken.{Taken}

-- before anything is read
abbrev pub at_start : Input
at_start = record { held = 0; from = 0; filled = 0 }

-- what an event of a collector is to a program
abbrev pub next_by : Event → Next
next_by (Event.Line n from) = Next.Line n
next_by (Event.TooLong from) = Next.TooLong
next_by Event.Held = Next.Nothing
next_by Event.Room = Next.Room

-- what a call gives back, and the line's buffer after it
pub record Given : Type 0 where
  pub taken : Taken
  pub line : List ℕ

abbrev pub taken_with : Taken → List ℕ → Given
taken_with t line = record { taken = t; line = line }

-- the next line that ends in the block, whose bytes are the first `filled`
abbrev pub in_block : ℕ → Bool → Input → List ℕ → List ℕ → Given
in_block m strip input block buf =
    let b = take input.filled block in
    let c = collect_of m strip input.held b input.from buf in
    let rest : Input = record { held = c.len; from = next_of c.event (length b); filled = length b } in
    taken_with (record { input = rest; next = next_by c.event }) c.line

-- at the end of the input: bytes that are held are a last line
abbrev pub at_end : ℕ → Bool → Input → List ℕ → Taken
at_end m strip input buf = record { input = at_start; next = next_by (last_of m strip input.held buf) }

-- what comes of the input: at its end a last line, and the line's buffer stays; else the next line of the block
abbrev pub comes_of : Bool → ℕ → Bool → Input → List ℕ → List ℕ → Given
comes_of ended m strip input block buf = pick ended (taken_with (at_end m strip input buf) buf) (in_block m strip input block buf)
