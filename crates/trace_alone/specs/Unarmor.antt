-- What is said to `unarmor`.
use Rattle.std.specs.Prelude.{ℕ, List, length, take, Option, Some, None}
use Rattle.refusal.specs.Words.{left}
use Rattle.text_out.specs.Text.{ascii}
use Rattle.trace_commands.specs.Line.{word_at}
use Rattle.trace_commands.specs.Hex.{bytes_of, filled_of}
use Rattle.armour.specs.Armour.{unarmored}
use Rattle.armour.specs.Unarmor.{answer_of}
use Rattle.trace_commands.specs.Asked.{unarmor_asked, bad, with_bytes}
use Rattle.trace_commands.specs.declared.Unarmor.{Unarmor}
use Rattle.trace_show.specs.Shown.{lent_bytes, fill_shown}

-- unarmoring alone into a lent buffer: `bytes BYTES`, or the refusal
abbrev pub unarmor_shown : List ℕ → ℕ → List ℕ → List ℕ
unarmor_shown s fill lent =
    let t = answer_of s fill (length lent) in
    fill_shown (ascii "bytes ") t (left t (unarmored s fill) lent)

-- `unarmor FILL ROOM DATA`: DATA of at most 4,096 bytes, which is more than a line can hold
abbrev pub unarmor_by : List ℕ → Option Unarmor → List ℕ
unarmor_by w (Some a) = with_bytes (filled_of w 4096) bad (unarmor_shown (bytes_of w) a.fill (take a.room lent_bytes))
unarmor_by w None = bad

abbrev pub unarmor_said : List ℕ → List ℕ
unarmor_said line = unarmor_by (word_at 3 line) (unarmor_asked line)
