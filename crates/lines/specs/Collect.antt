-- What one call of a collector does.
use Rattle.std.specs.Prelude.{ℕ, ◌+◌, Bool, List, ◌++◌, length, drop, eqb, ltb, leb}
use Rattle.refusal.specs.Words.{pick}
use Rattle.lines.specs.declared.Event.{Event}
use Rattle.lines.specs.declared.Event.TheVariants.{Line, TooLong, Held, Room}
use Rattle.lines.specs.declared.Collected.{Collected}
use Rattle.lines.specs.Lines.{until_lf, line_len}
use Rattle.lines.specs.Held.{count_of, keep, held_of}

-- the event for the bytes h before an LF, with `next` the place after it
unfoldable pub event_of : ℕ → Bool → List ℕ → ℕ → Event
event_of m strip h next = pick (leb (line_len strip h) m) (Line (line_len strip h) next) (TooLong next)

-- what a call gives back: the number held, the event, the buffer
pub record Collects : Type 0 where
  pub len : ℕ
  pub event : Event
  pub line : List ℕ

abbrev pub collected_in : Collected → List ℕ → Collects
collected_in r line = record { len = r.state.len; event = r.event; line = line }

-- the bytes h before an LF: nothing is held afterwards
abbrev pub at_lf : ℕ → Bool → List ℕ → ℕ → List ℕ → Collects
at_lf m strip h next buf = record { len = 0; event = event_of m strip h next; line = keep m h buf }

-- the bytes h with no LF: they are held
abbrev pub at_end : ℕ → List ℕ → List ℕ → Collects
at_end m h buf = record { len = count_of m h; event = Held; line = keep m h buf }

-- the bytes s of a block from the place `from` on, after h
abbrev pub onward : ℕ → Bool → List ℕ → List ℕ → ℕ → List ℕ → Collects
onward m strip h s from buf =
    pick (ltb (length (until_lf s)) (length s))
    (at_lf m strip (h ++ until_lf s) (from + length (until_lf s) + 1) buf)
    (at_end m (h ++ until_lf s) buf)

-- a call for lines of at most m bytes, a CR before the LF stripped or not: a buffer of fewer than m bytes comes first, and nothing changes
unfoldable pub collect_of : ℕ → Bool → ℕ → List ℕ → ℕ → List ℕ → Collects
collect_of m strip n block from buf =
    pick (ltb (length buf) m)
    (record { len = n; event = Room; line = buf })
    (onward m strip (held_of m n buf) (drop from block) from buf)

-- the end of the input: bytes that are held are a last line
unfoldable pub last_of : ℕ → Bool → ℕ → List ℕ → Event
last_of m strip n buf = pick (ltb (length buf) m) Room (pick (eqb n 0) Held (event_of m strip (held_of m n buf) 0))

-- the place of a block of `all` bytes that a caller goes on from after an event
abbrev pub next_of : Event → ℕ → ℕ
next_of (Line n next) all = next
next_of (TooLong next) all = next
next_of Held all = all
next_of Room all = all
