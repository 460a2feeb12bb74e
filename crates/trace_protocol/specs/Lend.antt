-- What is said to `fresh` and `lend`, and the record that they leave. What stands in quotes is the comparing protocol's text.
use Rattle.std.specs.Prelude.{ℕ, List, replicate, eqb, Option, Some, None}
use Rattle.refusal.specs.Words.{pick, over}
use Rattle.text_out.specs.Text.{ascii}
use Rattle.trace_commands.specs.Line.{word_at, count_of}
use Rattle.trace_commands.specs.Hex.{bytes_of, filled_of}
use Rattle.reassembly.specs.Record.{record_of, fresh_record}
use Rattle.reassembly.specs.declared.Record.{Record}
use Rattle.trace_commands.specs.Asked.{lend_asked, with_bytes}
use Rattle.trace_commands.specs.declared.Lend.{Lend}
use Rattle.trace_commands.specs.Reply.{Reply, reply, bad_reply}

-- "makes the record fresh; answers `fresh`"
abbrev pub fresh_reply : Record → List ℕ → Reply
fresh_reply state line = pick (eqb (count_of line) 1) (reply (ascii "fresh") fresh_record) (bad_reply state)

-- "sets the record: message number, fragment number, length (any 64-bit number), and its bytes, at most 384, zeros after them; answers `lent`"
abbrev pub lent_record : Option ℕ → ℕ → ℕ → List ℕ → Record
lent_record number fragment len s = record_of number fragment len (over s (replicate 384 0))

abbrev pub lend_by : Record → List ℕ → Option Lend → Reply
lend_by state w (Some a) =
    with_bytes (filled_of w 384) (bad_reply state) (reply (ascii "lent") (lent_record a.number a.fragment a.len (bytes_of w)))
lend_by state w None = bad_reply state

-- `lend ID FRAGMENT LENGTH BYTES`
abbrev pub lend_reply : Record → List ℕ → Reply
lend_reply state line = lend_by state (word_at 4 line) (lend_asked line)
