-- The turn of program `trace`: the next command line of the block, and what it is answered with.
use Rattle.std.specs.Prelude.{ℕ, Bool, false, List, [], ◌∷◌, ◌++◌, take}
use Rattle.text_out.specs.Text.{Text, text, put}
use Rattle.text_out.specs.Output.{stands}
use Rattle.text_out.specs.declared.Output.{Output}
use Rattle.reassembly.specs.declared.Record.{Record}
use Rattle.stream.specs.declared.Input.{Input}
use Rattle.stream.specs.declared.Next.{Next}
use Rattle.stream.specs.Next.{Given, comes_of}
use Rattle.trace_turn.specs.declared.Answered.{Answered}
use Rattle.trace_commands.specs.Asked.{bad}
use Rattle.trace_protocol.specs.Said.{said_of, kept_of}
use Rattle.trace_turn.specs.declared.Turned.{Turned}

-- the record and the output after a command
pub record Replied : Type 0 where
  pub state : Record
  pub out : Text

abbrev pub replied_in : Answered → List ℕ → Replied
replied_in a out = record { state = a.state; out = text a.at out }

-- the same before the output is handed back
abbrev pub replied_at : Record → Output → Replied
replied_at state out = record { state = state; out = stands out }

-- a command: what is said of it, and an LF (10)
abbrev pub command_of : Record → ℕ → List ℕ → List ℕ → Replied
command_of state used command out = record { state = kept_of state command; out = put (text used out) (said_of state command ++ 10 ∷ []) }

-- a line that is too long is no command
abbrev pub long_text : List ℕ
long_text = bad ++ 10 ∷ []

-- what came is answered; where nothing came, nothing changes
abbrev pub replied_of : Record → ℕ → Next → List ℕ → List ℕ → Replied
replied_of state used (Next.Line n) line out = command_of state used (take n line) out
replied_of state used Next.TooLong line out = record { state = state; out = put (text used out) long_text }
replied_of state used Next.Nothing line out = record { state = state; out = text used out }
replied_of state used Next.Room line out = record { state = state; out = text used out }

-- a turn: how far the input was taken, what came, the answer, and the line's buffer
pub record Turns : Type 0 where
  pub input : Input
  pub next : Next
  pub replied : Replied
  pub line : List ℕ

abbrev pub turn_in : Turned → List ℕ → List ℕ → Turns
turn_in t line out = record { input = t.input; next = t.next; replied = replied_in t.answered out; line = line }

abbrev pub turn_by : Record → ℕ → List ℕ → Given → Turns
turn_by state used out g =
    record {
      input = g.taken.input;
      next = g.taken.next;
      replied = replied_of state used g.taken.next g.line out;
      line = g.line;
    }

-- the next command line that ends in the block, or at the end of the input what is held, of at most 8,192 bytes, a CR among them
unfoldable pub turn_of : Input → Bool → Record → ℕ → List ℕ → List ℕ → List ℕ → Turns
turn_of input ended state used block line out = turn_by state used out (comes_of ended 8192 false input block line)
