-- What a line of the input is answered with: a line of JSON, or nothing. The promise is `left_of` and `left_long`, over the fields of the message
-- (specs/Object); in the code an answer is laid out and the layout shown (specs/Laid), and proofs/Calls has that this is the same.
use Rattle.std.specs.Prelude.{ℕ, Bool, true, false, List, [], eqb, ltb, length, replicate, Option, None}
use Rattle.refusal.specs.Words.{pick, Told, taken, refused}
use Rattle.interrogation.specs.declared.Interrogation.{Interrogation}
use Rattle.messages.specs.declared.AisMessage.{AisMessage}
use Rattle.messages.specs.declared.Message.{Message}
use Rattle.reassembly.specs.Record.{fresh_record}
use Rattle.reassembly.specs.declared.Record.{Record}
use Rattle.answer.specs.Answer.{Progress, complete, unfinished}
use Rattle.ais.specs.Call.{Called, call_broken, called_of}
use Rattle.answer.specs.declared.Decode.{Decode}
use Rattle.answer.specs.declared.Sentence.{Sentence}
use Rattle.record_bytes.specs.Bytes.{too_few, record_in, loaded_of, stored_of}
use Rattle.text_out.specs.Text.{Text, text, put}
use Rattle.sentence.specs.Other.{other_sentence}
use Rattle.summary.specs.Tally.{another_kind, bumped, counted_of}
use Rattle.layout_answer.specs.Sender.{sender_of}
use Rattle.json_told.specs.Object.{About, message_object, refused_object}
use Rattle.json_told.specs.declared.Show.{Show}

-- ---- a refused line
-- a line that breaks the line rules may be a well-formed sentence that is not ours
abbrev pub other_of : ℕ → List ℕ → Bool
other_of n line = pick (eqb n 2) (other_sentence line) false

-- all that is told of a line beside its refusal: its sender where its type is not decoded, and its text
abbrev pub about_by : ℕ → Option ℕ → List ℕ → About
about_by n sender line = record { sender = sender; other = other_of n line; text = line; cut = ltb 100 (length line) }

abbrev pub about_of : ℕ → Record → List ℕ → About
about_of n found line = about_by n (sender_of n found line) line

-- of a line that is too long to be held: its first bytes
abbrev pub about_long : List ℕ → About
about_long line = record { sender = None; other = false; text = line; cut = true }

-- where refused lines are left out, nothing is written for one
abbrev pub shown_by : Show → List ℕ → List ℕ
shown_by Show.All s = s
shown_by Show.Quiet s = []

-- ---- counting
-- the type that a message tells
abbrev pub type_by : AisMessage → Interrogation → ℕ
type_by AisMessage.Nothing i = 0
type_by (AisMessage.PositionReport p) i = p.message_type
type_by (AisMessage.StaticDataReport r) i = r.message_type
type_by AisMessage.Interrogation i = i.message_type

-- a refused line, counted by its number, and once more where it is another kind's
abbrev pub refused_tally : List ℕ → ℕ → Bool → List ℕ
refused_tally tally n other = pick other (bumped (counted_of tally n 0) another_kind) (counted_of tally n 0)

-- a line that is read: a complete message by its type, an unfinished one, or a refused one
abbrev pub tally_of : List ℕ → List ℕ → Told Progress → Message → List ℕ
tally_of tally line (taken complete) m = counted_of tally 0 (type_by m.content m.interrogation)
tally_of tally line (taken unfinished) m = counted_of tally 100 0
tally_of tally line (refused n values) m = refused_tally tally n (other_of n line)

-- ---- the promise
-- a complete message, nothing while more is to come, or a refusal
abbrev pub said_of : Show → ℕ → Record → List ℕ → Told Progress → Sentence → Message → List ℕ → List ℕ
said_of show number found line (taken complete) s m bits = message_object number s m bits
said_of show number found line (taken unfinished) s m bits = []
said_of show number found line (refused n values) s m bits = shown_by show (refused_object number n values (about_of n found line))

-- the record's bytes, the text and the counts after a line
pub record Left : Type 0 where
  pub state : List ℕ
  pub out : Text
  pub tally : List ℕ

abbrev pub left_with : List ℕ → ℕ → List ℕ → List ℕ → Left
left_with state at out tally = record { state = state; out = text at out; tally = tally }

-- a line that is read with decoding on, into buffers of 384 and 288 bytes
unfoldable pub read_of : Record → List ℕ → Called
read_of state line = called_of state line Decode.On (replicate 384 0) (replicate 288 0)

-- a line that is read over lent bytes which are too few for a record: 12, "a lent output is too small"
abbrev pub the_read_short : Called
the_read_short = call_broken (refused 12 []) fresh_record (replicate 384 0) (replicate 288 0)

-- a line that is read over the record in lent bytes
abbrev pub read_over : List ℕ → List ℕ → Called
read_over state line = pick (too_few state) the_read_short (read_of (record_in state) line)

-- the record that a call leaves, where it lay; after the text before it what is said of the call; and one line more in the counts
abbrev pub left_by : Show → ℕ → List ℕ → List ℕ → Text → List ℕ → Called → Left
left_by show number state line before tally called = record {
  state = stored_of called.after state;
  out = put before (said_of show number (loaded_of state) line called.told called.sentence called.message called.bits);
  tally = tally_of tally line called.told called.message;
}

abbrev pub left_of : Show → List ℕ → ℕ → List ℕ → ℕ → List ℕ → List ℕ → Left
left_of show state number line at out tally = left_by show number state line (text at out) tally (read_over state line)

-- a line that is too long to be held is refused with 1: "Refusals 12 and 1 to 5 leave the record as found" (document 01)
abbrev pub left_long : Show → List ℕ → ℕ → List ℕ → ℕ → List ℕ → List ℕ → Left
left_long show state number line at out tally = record {
  state = state;
  out = put (text at out) (shown_by show (refused_object number 1 [] (about_long line)));
  tally = counted_of tally 1 0;
}
