-- What is said to the command `write` of the comparing protocol.
use Rattle.std.specs.Prelude.{ℕ, List, length, take, Option, Some, None}
use Rattle.refusal.specs.Words.{left}
use Rattle.text_out.specs.Text.{ascii}
use Rattle.trace_commands.specs.Line.{word_at}
use Rattle.trace_commands.specs.Hex.{bytes_of, filled_of}
use Rattle.writer.specs.Message.{text_all}
use Rattle.writer.specs.Writer.{message_of, answer_of}
use Rattle.writer.specs.declared.Request.{Request}
use Rattle.trace_commands.specs.Asked.{bad, with_bytes}
use Rattle.trace_write.specs.Request.{write_asked}
use Rattle.trace_write.specs.declared.Asked.{Asked}
use Rattle.trace_show.specs.Shown.{lent_bytes, fill_shown}

-- the writer into a lent buffer: `lines BYTES`, or the refusal
abbrev pub write_shown : Request → List ℕ → List ℕ → List ℕ
write_shown q d lent =
    let t = answer_of q d (length lent) in
    fill_shown (ascii "lines ") t (left t (text_all (message_of q d)) lent)

-- `write COUNT TALKER REPORT CHANNEL NUMBER ROOM BYTES`, of at most 4,096 bytes
abbrev pub write_by : List ℕ → Option Asked → List ℕ
write_by w (Some a) = with_bytes (filled_of w 4096) bad (write_shown a.request (bytes_of w) (take a.room lent_bytes))
write_by w None = bad

abbrev pub write_said : List ℕ → List ℕ
write_said line = write_by (word_at 7 line) (write_asked line)
