-- What a line of the input is answered with, as the code has it: a call is laid out in numbers and texts, and the layout shown. Nobody need believe it:
-- proofs/Calls has that it is the promise of specs/Answer.
use Rattle.std.specs.Prelude.{ℕ, min, ◌≡◌, List, [], ◌∷◌, ◌++◌, length, get_or, replicate, Option}
use Rattle.refusal.specs.Words.{Told, taken, refused}
use Rattle.refusal.specs.Refusal.{row_of}
use Rattle.refusal.specs.declared.Refusal.{Refusal}
use Rattle.messages.specs.declared.Message.{Message}
use Rattle.answer.specs.Answer.{Progress, complete, unfinished, outcome_in}
use Rattle.answer.specs.declared.Outcome.{Outcome}
use Rattle.answer.specs.declared.Sentence.{Sentence}
use Rattle.ais.specs.Call.{Called}
use Rattle.parsers.specs.Field.{field_of}
use Rattle.record_bytes.specs.Bytes.{stored_of}
use Rattle.layout_position.specs.Position.{flag_of}
use Rattle.layout_numbers.specs.Places as at
use Rattle.layout_numbers.specs.Optional.{there_of, value_of}
use Rattle.layout_answer.specs.Sentence.{code_of, values_of}
use Rattle.layout_answer.specs.declared.whole.Layout.{Layout}
use Rattle.layout_answer.specs.Layout.{layout_by}
use Rattle.summary.specs.Tally.{counted_of}
use Rattle.face_json.specs.Line.{message_line}
use Rattle.json_told.specs.Object.{About, refused_object}
use Rattle.json_told.specs.Answer.{other_of, about_by, shown_by, refused_tally, read_over}
use Rattle.json_told.specs.declared.RefusedLine.{RefusedLine}
use Rattle.json_told.specs.declared.Show.{Show}

-- ---- a call laid out
-- `radio` is bits 149 to 167, "Radio status" in the AIVDM description's common navigation block
abbrev pub layout_for : ℕ → Called → Layout
layout_for number c = layout_by c.told c.sentence c.message number (field_of c.bits 149 19)

abbrev pub layout_in : List ℕ → List ℕ → Layout
layout_in numbers texts = record { numbers = numbers; texts = texts }

-- the code, the record's bytes and the layout after a line
pub record Laid : Type 0 where
  pub code : ℕ
  pub state : List ℕ
  pub layout : Layout

abbrev pub laid_in : ℕ → List ℕ → List ℕ → List ℕ → Laid
laid_in code state numbers texts = record { code = code; state = state; layout = layout_in numbers texts }

abbrev pub laid_by : List ℕ → ℕ → Called → Laid
laid_by state number c = record { code = code_of c.told; state = stored_of c.after state; layout = layout_for number c }

abbrev pub laid_of : List ℕ → List ℕ → ℕ → Laid
laid_of state line number = laid_by state number (read_over state line)

-- ---- what is put for it
-- an outcome, by its code and the first two numbers of its layout
pub record Coded (o : Outcome) (code : ℕ) (numbers : List ℕ) : Type 0 where
  pub its : code ≡ code_of (outcome_in o)
  pub first : get_or numbers at.first_value 0 ≡ get_or (values_of (outcome_in o)) 0 0
  pub second : get_or numbers at.second_value 0 ≡ get_or (values_of (outcome_in o)) 1 0

-- a refusal, by its number and its two values
pub record Holds (r : Refusal) (s : RefusedLine) : Type 0 where
  pub its : s.code ≡ (row_of r).number
  pub first : s.first ≡ get_or (row_of r).values 0 0
  pub second : s.second ≡ get_or (row_of r).values 1 0

-- the layout of a message, shown
abbrev pub shown_line : Layout → List ℕ
shown_line l = message_line l.numbers l.texts

abbrev pub line_for : ℕ → Told Progress → Sentence → Message → List ℕ → List ℕ
line_for number told sentence message bits = shown_line (layout_by told sentence message number (field_of bits 149 19))

-- a message by its layout, a refusal as the promise has it, with the sender that is told of it
abbrev pub shown_for : Show → ℕ → Option ℕ → List ℕ → Told Progress → Layout → List ℕ
shown_for show number sender line (taken complete) l = shown_line l
shown_for show number sender line (taken unfinished) l = []
shown_for show number sender line (refused n values) l = shown_by show (refused_object number n values (about_by n sender line))

-- the counts: a message by the type in its layout
abbrev pub tally_for : List ℕ → List ℕ → Told Progress → List ℕ → List ℕ
tally_for tally line (taken complete) numbers = counted_of tally 0 (get_or numbers at.type 0)
tally_for tally line (taken unfinished) numbers = counted_of tally 100 0
tally_for tally line (refused n values) numbers = refused_tally tally n (other_of n line)

-- the numbers of a refused line, by their places (layout_numbers/specs/Places)
abbrev pub refused_numbers : ℕ → ℕ → List ℕ → About → List ℕ
refused_numbers number n values about =
    (get_or values 0 0 ∷ get_or values 1 0 ∷ replicate 48 0)
    ++ number
    ∷ 0
    ∷ n
    ∷ length values
    ∷ min 100 (length about.text)
    ∷ flag_of about.cut
    ∷ there_of about.sender
    ∷ value_of about.sender
    ∷ flag_of about.other
    ∷ []
