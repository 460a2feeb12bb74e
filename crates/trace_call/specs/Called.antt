-- What is said to `read`: all that a call of the reader gives back, as the comparing protocol shows it.
use Rattle.std.specs.Prelude.{ℕ, List, ◌++◌}
use Rattle.refusal.specs.Words.{pick, Told, taken, refused}
use Rattle.armour.specs.Armour.{size}
use Rattle.answer.specs.Answer.{Progress, complete, unfinished, is_on}
use Rattle.answer.specs.declared.Decode.{Decode}
use Rattle.ais.specs.Call.{Called}
use Rattle.text_out.specs.Text.{ascii}
use Rattle.trace_show.specs.Shown.{refusal_shown}
use Rattle.trace_show.specs.Record.{record_shown}
use Rattle.trace_call.specs.Taken.{both_kept, taken_shown}

-- how many bytes of the bit buffer a complete message hands out: with decoding on, those that its payload of n bytes unarmors to
abbrev pub bits_out : Decode → ℕ → ℕ
bits_out decode n = pick (is_on decode) (size n) 0

-- by what was told: a refusal hands nothing out
abbrev pub told_shown : Decode → Told Progress → Called → List ℕ
told_shown decode (taken complete) c = taken_shown (ascii "complete") (bits_out decode c.sentence.payload_len) c
told_shown decode (taken unfinished) c = taken_shown (ascii "unfinished") 0 c
told_shown decode (refused n values) c = refusal_shown (record { number = n; values = values }) ++ both_kept 0 c.payload 0 c.bits

abbrev pub answer_shown : Decode → Called → List ℕ
answer_shown decode c = told_shown decode c.told c

-- "Taken or refused, the line ends with ` ; KEPT ID FRAGMENT LENGTH BYTES`"
unfoldable pub called_shown : Decode → Called → List ℕ
called_shown decode c = answer_shown decode c ++ record_shown c.after
