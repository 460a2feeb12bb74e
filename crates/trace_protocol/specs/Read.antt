-- What is said to `read`, and the record that it leaves. What stands in quotes is the comparing protocol's text.
use Rattle.std.specs.Prelude.{ℕ, List, take, Option, Some, None}
use Rattle.trace_commands.specs.Line.{word_at}
use Rattle.trace_commands.specs.Hex.{bytes_of, filled_of}
use Rattle.reassembly.specs.declared.Record.{Record}
use Rattle.answer.specs.declared.Decode.{Decode}
use Rattle.ais.specs.Call.{Called, called_of}
use Rattle.trace_commands.specs.Asked.{read_asked, with_bytes}
use Rattle.trace_commands.specs.declared.Read.{Read}
use Rattle.trace_show.specs.Shown.{lent_bytes}
use Rattle.trace_call.specs.Called.{called_shown}
use Rattle.trace_commands.specs.Reply.{Reply, reply, bad_reply}

-- what a call gives back: all of it is shown, and its record is kept
abbrev pub called_reply : Decode → Called → Reply
called_reply decode c = reply (called_shown decode c) c.after

-- "reads one line", with the two buffers that are lent
abbrev pub line_reply : Record → List ℕ → Decode → List ℕ → List ℕ → Reply
line_reply state sent decode payload bits = called_reply decode (called_of state sent decode payload bits)

-- LINE of at most 4,096 bytes, which is more than a command line can hold
abbrev pub read_by : Record → List ℕ → Option Read → Reply
read_by state w (Some a) =
    with_bytes (filled_of w 4096) (bad_reply state) (line_reply state (bytes_of w) a.decode (take a.room lent_bytes) (take a.bit_room lent_bytes))
read_by state w None = bad_reply state

-- `read DECODE ROOM BITROOM LINE`
abbrev pub read_reply : Record → List ℕ → Reply
read_reply state line = read_by state (word_at 4 line) (read_asked line)
