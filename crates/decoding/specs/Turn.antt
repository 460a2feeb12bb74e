-- The turn of program `decode`: the next line of the block, and what it is answered with.
use Rattle.std.specs.Prelude.{ℕ, ◌+◌, ◌-◌, ◌^◌, min, Bool, true, List, take}
use Rattle.stream.specs.declared.Input.{Input}
use Rattle.stream.specs.declared.Next.{Next}
use Rattle.stream.specs.Next.{Given, comes_of}
use Rattle.json_told.specs.declared.Kept.{Kept}
use Rattle.json_told.specs.declared.Show.{Show}
use Rattle.json_told.specs.Answer.{Left, left_with, left_of, left_long}
use Rattle.decoding.specs.declared.Turned.{Turned}

-- the number of lines so far, and the record, the output and the counts after them
pub record Answered : Type 0 where
  pub number : ℕ
  pub left : Left

abbrev pub answered_in : Kept → List ℕ → List ℕ → List ℕ → Answered
answered_in k state out tally = record { number = k.number; left = left_with state k.used out tally }

-- one line more is counted; no input has so many that a u64 could not tell it
abbrev pub following : ℕ → ℕ
following n = min (n + 1) (2 ^ 64 - 1)

-- what came is answered: a line by what reading it gives, one that is too long by refusal 1; where nothing came, nothing changes
abbrev pub answered_of : Show → Kept → Next → List ℕ → List ℕ → List ℕ → List ℕ → Answered
answered_of show k (Next.Line n) state line out tally =
    record { number = following k.number; left = left_of show state (following k.number) (take n line) k.used out tally }
answered_of show k Next.TooLong state line out tally =
    record { number = following k.number; left = left_long show state (following k.number) line k.used out tally }
answered_of show k Next.Nothing state line out tally = answered_in k state out tally
answered_of show k Next.Room state line out tally = answered_in k state out tally

-- a turn: how far the input was taken, what came, the answer, and the line's buffer
pub record Turns : Type 0 where
  pub input : Input
  pub next : Next
  pub answered : Answered
  pub line : List ℕ

abbrev pub turn_in : Turned → List ℕ → List ℕ → List ℕ → List ℕ → Turns
turn_in t state line out tally = record { input = t.input; next = t.next; answered = answered_in t.kept state out tally; line = line }

abbrev pub turn_by : Show → Kept → List ℕ → List ℕ → List ℕ → Given → Turns
turn_by show k state out tally g =
    record {
      input = g.taken.input;
      next = g.taken.next;
      answered = answered_of show k g.taken.next state g.line out tally;
      line = g.line;
    }

-- the next line that ends in the block, or at the end of the input what is held, of at most 1,024 bytes without the one CR that is removed
unfoldable pub turn_of : Show → Input → Bool → Kept → List ℕ → List ℕ → List ℕ → List ℕ → List ℕ → Turns
turn_of show input ended k state block line out tally = turn_by show k state out tally (comes_of ended 1024 true input block line)
