-- What is said to each command of the comparing protocol, and the record that it leaves.
use Rattle.std.specs.Prelude.{ℕ, List}
use Rattle.refusal.specs.Words.{pick}
use Rattle.text_out.specs.Text.{ascii}
use Rattle.trace_commands.specs.Line.{word_at}
use Rattle.lines.specs.Same.{same_as}
use Rattle.reassembly.specs.declared.Record.{Record}
use Rattle.trace_commands.specs.Reply.{Reply, reply}
use Rattle.trace_alone.specs.Alone.{alone_said}
use Rattle.trace_protocol.specs.Lend.{fresh_reply, lend_reply}
use Rattle.trace_protocol.specs.Read.{read_reply}

-- a command line, by its first word
unfoldable pub reply_of : Record → List ℕ → Reply
reply_of state line =
    pick (same_as (word_at 0 line) (ascii "fresh")) (fresh_reply state line)
    (pick (same_as (word_at 0 line) (ascii "lend")) (lend_reply state line)
    (pick (same_as (word_at 0 line) (ascii "read")) (read_reply state line)
    (reply (alone_said line) state)))

-- what is said to a command line, and the record after it
abbrev pub said_of : Record → List ℕ → List ℕ
said_of state line = (reply_of state line).said

abbrev pub kept_of : Record → List ℕ → Record
kept_of state line = (reply_of state line).kept
