-- What the writer answers, and what it leaves in the output: document 01, 'The writer'. What stands in quotes is its text.
use Rattle.std.specs.Prelude.{ℕ, ◌*◌, ◌≡◌, Bool, false, not, ◌||◌, List, [], ◌∷◌, ltb, length, Option, Some, None, Result, Ok, Err}
use Rattle.refusal.specs.Words.{within, is_empty, Told, taken, Check, check, checked, left}
use Rattle.refusal.specs.Refusal.{told}
use Rattle.refusal.specs.declared.Refusal.{Refusal}
use Rattle.sentence.specs.Written.{talker_text, report_text}
use Rattle.writer.specs.Message.{armoured, fill_in, Message, text_all}
use Rattle.writer.specs.declared.Request.{Request}

-- the answer on paper: the length of what was written, or document 01's number
abbrev pub written_in : Result ℕ Refusal → Told ℕ
written_in (Ok n) = taken n
written_in (Err r) = told r

-- "Bits 1 to 2304, packed, in enough bytes"
abbrev pub bad_count : ℕ → List ℕ → Bool
bad_count n d = not (within 1 2304 n) || ltb (length d * 8) n

-- "channel A, B or none": A and B are 65 and 66
abbrev pub other_channel : Option ℕ → Bool
other_channel None = false
other_channel (Some b) = not (within 65 66 b)

-- "a known talker; VDM or VDO": those that have letters; "message number 0 to 9. Anything else is refusal 13."
unfoldable pub outside : Request → List ℕ → Bool
outside q d =
    bad_count q.count d
    || (is_empty (talker_text q.talker_id) || (is_empty (report_text q.report_type) || (other_channel q.channel || ltb 9 q.message_id)))

-- the message that is asked for: the bits as characters; what the bytes hold beyond them is not sent
abbrev pub message_of : Request → List ℕ → Message
message_of q d = record {
  talker = q.talker_id;
  report = q.report_type;
  channel = q.channel;
  number = q.message_id;
  payload = armoured d q.count;
  fill = fill_in q.count;
}

-- "The writer: 13, then 12" ('Refusal numbers')
abbrev pub checks_of : Request → List ℕ → ℕ → List Check
checks_of q d room =
    check (outside q d) 13 []
    ∷ check (ltb room (length (text_all (message_of q d)))) 12 []
    ∷ []

unfoldable pub answer_of : Request → List ℕ → ℕ → Told ℕ
answer_of q d room = checked (checks_of q d room) (taken (length (text_all (message_of q d))))

-- the promise: the answer and every lent byte
pub record Writes (q : Request) (d out : List ℕ) (r : Result ℕ Refusal) (out' : List ℕ) : Type 0 where
  pub answers : written_in r ≡ answer_of q d (length out)
  pub leaves : out' ≡ left (answer_of q d (length out)) (text_all (message_of q d)) out
