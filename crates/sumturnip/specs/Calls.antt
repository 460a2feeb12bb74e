-- What the exported calls give back, in numbers and bytes: each is one value of what came in, in refusals too. That of reading a line is
-- record_read/specs/Read.antt `read_of`.
use Rattle.std.specs.Prelude.{ℕ, List, [], ◌∷◌, ltb, length}
use Rattle.refusal.specs.Words.{pick, Told, number_in, over, left}
use Rattle.armour.specs.Armour.{unarmored}
use Rattle.armour.specs.Unarmor.{answer_of}
use Rattle.reassembly.specs.Record.{fresh_record}
use Rattle.record_bytes.specs.Bytes.{too_few, the_record_bytes}
use Rattle.writer.specs.Message.{text_all}
use Rattle.writer.specs.Writer as Writer
use Rattle.writer.specs.Writer.{message_of}
use Rattle.writer.specs.declared.Request.{Request}
use Rattle.layout_answer.specs.Sentence.{count_of}

-- the version, 0.2.0: two decimal places for each of its three numbers, as bindings/sumturnip.h has it
abbrev pub version : ℕ
version = 200

-- what making a record fresh gives back: the answer, and the record's bytes
pub record Freshened : Type 0 where
  pub code : ℕ
  pub state : List ℕ

abbrev pub freshened_in : ℕ → List ℕ → Freshened
freshened_in code state = record { code = code; state = state }

-- 12 where the record's bytes are too few, with nothing written
abbrev pub freshened_of : List ℕ → Freshened
freshened_of state = pick (too_few state) (freshened_in 12 state) (freshened_in 0 (over (the_record_bytes fresh_record) state))

-- what a call that fills an output gives back: the answer, the output and the answer's one number
pub record Fills : Type 0 where
  pub code : ℕ
  pub out : List ℕ
  pub numbers : List ℕ

abbrev pub fills_in : ℕ → List ℕ → List ℕ → Fills
fills_in code out numbers = record { code = code; out = out; numbers = numbers }

-- an answer on paper that puts s first in the output, with its number first in what is lent for it; or 12 where nothing is lent for that
unfoldable pub fills_by : Told ℕ → List ℕ → List ℕ → List ℕ → Fills
fills_by t s out numbers =
    pick (ltb (length numbers) 1) (fills_in 12 out numbers) (fills_in (number_in t) (left t s out) (over (count_of t ∷ []) numbers))

-- unarmoring alone
abbrev pub unarms_of : List ℕ → ℕ → List ℕ → List ℕ → Fills
unarms_of payload fill out numbers = fills_by (answer_of payload fill (length out)) (unarmored payload fill) out numbers

-- the writer, asked by a request
abbrev pub writes_of : Request → List ℕ → List ℕ → List ℕ → Fills
writes_of q bits out numbers = fills_by (Writer.answer_of q bits (length out)) (text_all (message_of q bits)) out numbers
