-- What reading a line over a record in lent bytes gives back, in numbers and bytes: one value of what came in, in refusals too.
use Rattle.std.specs.Prelude.{ℕ, ◌≡◌, Bool, ◌||◌, List, ltb, length, take}
use Rattle.refusal.specs.Words.{pick, over}
use Rattle.reassembly.specs.Record.{emptied_of}
use Rattle.sentence.specs.declared.AisSentence.{AisSentence}
use Rattle.answer.specs.Answer.{complete_of, decode_of}
use Rattle.answer.specs.declared.Decode.{Decode}
use Rattle.answer.specs.declared.Answer.{Answer}
use Rattle.ais.specs.Call.{Called, called_in, called_of}
use Rattle.ais.specs.Parts.{stepped}
use Rattle.record_bytes.specs.Bytes.{too_few, record_in, the_record_bytes, loaded_of, stored_of}
use Rattle.layout_answer.specs.Sentence.{code_of}
use Rattle.layout_message.specs.Message.{message_texts}
use Rattle.layout_answer.specs.Answer.{numbers_by, told_in, told_of}
use Rattle.layout_told.specs.Told.{Hears}

-- what reading a line gives back: the answer, and every lent part
pub record Read : Type 0 where
  pub code : ℕ
  pub state : List ℕ
  pub payload : List ℕ
  pub bits : List ℕ
  pub numbers : List ℕ
  pub texts : List ℕ

abbrev pub read_in : ℕ → List ℕ → List ℕ → List ℕ → List ℕ → List ℕ → Read
read_in code state payload bits numbers texts = record { code = code; state = state; payload = payload; bits = bits; numbers = numbers; texts = texts }

-- 12 where what is lent for the record or the answer is too short: 400 bytes, 50 numbers, 80 bytes of text
abbrev pub too_short : List ℕ → List ℕ → List ℕ → Bool
too_short state numbers texts = too_few state || (ltb (length numbers) 50 || ltb (length texts) 80)

-- a call's answer, the record's bytes and both buffers after it
pub record Leaves (c : Called) (state : List ℕ) (a : Answer) (state' payload' bits' : List ℕ) : Type 0 where
  pub answered : called_in (stepped c.after a) payload' bits' ≡ c
  pub stored : state' ≡ over (the_record_bytes c.after) state

-- a call's answer in numbers and texts, and what it leaves
pub record Reads (c : Called) (state numbers texts : List ℕ) (code : ℕ) (state' payload' bits' numbers' texts' : List ℕ) : Type 0 where
  pub answer : Answer
  pub leaves : Leaves c state answer state' payload' bits'
  pub told : told_in code numbers' texts' ≡ told_of answer numbers texts
  pub texted : length (message_texts answer.message) ≡ 80

-- the last line of several, once it is joined: the bytes that the record holds are handed out, and it is emptied
pub record Ends (s : AisSentence) (decode : Decode) (state payload bits numbers texts : List ℕ) (code : ℕ)
    (state' payload' bits' numbers' texts' : List ℕ) : Type 0 where
  pub hears : Hears (complete_of s (take (loaded_of state).len (loaded_of state).bytes) decode payload bits) numbers texts code payload' bits' numbers' texts'
  pub emptied : state' ≡ stored_of (emptied_of (loaded_of state)) state

-- a call of the reader in numbers and bytes: each stands first in what is lent for it
abbrev pub flattened : Called → List ℕ → List ℕ → List ℕ → Read
flattened c state numbers texts =
    read_in (code_of c.told) (over (the_record_bytes c.after) state) c.payload c.bits
    (over (numbers_by c.told c.sentence c.message) numbers) (over (message_texts c.message) texts)

-- the whole call: that of the reader on the record in the bytes; or 12, with nothing written
unfoldable pub read_of : List ℕ → List ℕ → Bool → List ℕ → List ℕ → List ℕ → List ℕ → Read
read_of state line decode payload bits numbers texts =
    pick (too_short state numbers texts) (read_in 12 state payload bits numbers texts)
    (flattened (called_of (record_in state) line (decode_of decode) payload bits) state numbers texts)
