-- The runs of calls of the code, and demand 3 of them. What stands in quotes is its text, or document 01's.
use Rattle.std.specs.Prelude.{ℕ, ◌≤◌, ◌≡◌, List, [], ◌∷◌, map, length, take, Ok}
use Rattle.refusal.specs.Refusal.{row_of}
use Rattle.answer.specs.declared.Answer as given
use Rattle.answer.specs.declared.Decode.{Decode}
use Rattle.answer.specs.declared.Outcome.{Outcome}
use Rattle.ais.specs.Call.{called_in, called_of}
use Rattle.reassembly.specs.Record.{fresh_record}
use Rattle.reassembly.specs.declared.Record.{Record}
use Rattle.writer.specs.Message.{Message}
use Rattle.writer.specs.Writer.{message_of, Writes}
use Rattle.writer.specs.declared.Request.{Request}
use Rattle.delivery.specs.Delivery.{Arrival, AllOurs, Answer, refused, unfinished, complete, always, NoMixing, Safety, Delivery, DeliveryAlone, Numbered}
use Rattle.delivery.specs.Lines.{text_in, the_all_lines, cut_after_lf, LineEnd, handed_on}

-- ---- what is sent
-- a call of `writer::write` that is answered with a count of bytes: what it was given, and its output before and after it, as its contract ties them
pub record Sent : Type 0 where
  pub request : Request
  pub bytes : List ℕ
  pub before : List ℕ
  pub count : ℕ
  pub out : List ℕ
  pub keeps : Writes request bytes before (Ok count) out

abbrev pub message_in : Sent → Message
message_in s = message_of s.request s.bytes

-- ---- the calls of the reader
-- "a payload buffer of at least 384 bytes and a bit buffer of at least 288 lent at each call"
pub record Lent : Type 0 where
  pub payload : List ℕ
  pub bits : List ℕ
  pub payload_large : 384 ≤ length payload
  pub bits_large : 288 ≤ length bits

-- a call: how its line ends, the buffers lent at it, and what the code gave back, which is the answer, the record and both buffers after it
pub record Call : Type 0 where
  pub ends : LineEnd
  pub lent : Lent
  pub answer : given.Answer
  pub state : Record
  pub payload : List ℕ
  pub bits : List ℕ

-- what the caller reads off an outcome, the payload handed out and the fill
abbrev pub answer_by : Outcome → List ℕ → ℕ → Answer
answer_by Outcome.Complete handed fill = complete handed fill
answer_by Outcome.Unfinished handed fill = unfinished
answer_by (Outcome.Refused r) handed fill = refused (row_of r).number

-- "On success the payload buffer's first bytes hold the payload": as many as the answer's sentence tells
abbrev pub answer_in : Call → Answer
answer_in c = answer_by c.answer.outcome (take c.answer.sentence.payload_len c.payload) c.answer.sentence.fill_bit_count

-- a call on a line that was written, as it is handed on, "with decoding off", keeps the contract of `reader::read` and `ais::step`, from the record r
abbrev pub Keeps : Record → List ℕ → Call → Type 0
Keeps r line c =
    called_in (record { state = c.state; answer = c.answer }) c.payload c.bits
    ≡ called_of r (handed_on c.ends line) Decode.Off c.lent.payload c.lent.bits

-- A RUN OF CALLS from a record on, one for each line: each finds the record that the call before it left
abbrev pub Calls : Record → List (List ℕ) → List Call → Type 0
Calls r [] [] = Unit {0}
Calls r [] (c ∷ cs) = ⊥
Calls r (line ∷ later) [] = ⊥
Calls r (line ∷ later) (c ∷ cs) = Keeps r line c × Calls c.state later cs

-- "Let a fresh record receive .." the lines that arrive: the answers are read off a run of calls
pub record Received (arrivals : List Arrival) (answers : List Answer) : Type 0 where
  pub calls : List Call
  pub run : Calls fresh_record (map text_in arrivals) calls
  pub read_off : answers ≡ map answer_in calls

-- DEMAND 3, whatever the writer was asked, however the lines end and whatever buffers are lent: "Let a fresh record receive, with decoding off,
-- only lines our writer wrote, with some lost, repeated or out of order." The premise is `NoMixing`
pub record Demand3 : Type 0 where
  -- "Then each payload handed out as complete is one that was sent, with its fill count."
  pub safety : (sent : List Sent) → Safety always (map message_in sent) Received
  -- "Under the same premise a message of several lines is handed out if its lines come in order, whatever else lies between, provided .."
  pub delivery : (sent : List Sent) → Delivery always (map message_in sent) Received
  -- beside it: a message of a single line is handed out whenever its line arrives
  pub alone : (sent : List Sent) → DeliveryAlone (map message_in sent) Received
  -- the premise holds of every order of arrival if the messages of several lines that are sent differ in number
  pub numbered : (sent : List Sent) (arrivals : List Arrival) → Numbered (map message_in sent) → AllOurs (map message_in sent) arrivals
      → NoMixing always arrivals
  -- and those lines are what our writer wrote: its output, cut after each LF
  pub written : (s : Sent) → cut_after_lf (take s.count s.out) ≡ map text_in (the_all_lines (message_in s))
