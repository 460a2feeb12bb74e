-- What is said to the commands that have nothing to do with the record. What stands in quotes is the comparing protocol's text.
use Rattle.std.specs.Prelude.{ℕ, List, eqb}
use Rattle.refusal.specs.Words.{pick}
use Rattle.text_out.specs.Text.{ascii}
use Rattle.trace_commands.specs.Line.{word_at, count_of}
use Rattle.lines.specs.Same.{same_as}
use Rattle.trace_commands.specs.Hex.{bytes_of, filled_of}
use Rattle.trace_commands.specs.Asked.{bad, with_bytes}
use Rattle.trace_alone.specs.Unarmor.{unarmor_said}
use Rattle.trace_write.specs.Write.{write_said}
use Rattle.trace_alone.specs.Message.{decoded_shown}

-- `decode BYTES`, of at most 4,096 bytes
abbrev pub decode_said : List ℕ → List ℕ
decode_said line = let w = word_at 1 line in pick (eqb (count_of line) 2) (with_bytes (filled_of w 4096) bad (decoded_shown (bytes_of w))) bad

-- what is said to a command line
unfoldable pub alone_said : List ℕ → List ℕ
alone_said line =
    pick (same_as (word_at 0 line) (ascii "unarmor")) (unarmor_said line)
    (pick (same_as (word_at 0 line) (ascii "decode")) (decode_said line)
    (pick (same_as (word_at 0 line) (ascii "write")) (write_said line)
    bad))
