-- The round trip, through the contracts of `writer`, `ais` and `armour`. Document 01, 'The writer': "Read in order into a fresh record with decoding off,
-- then unarmored with the fill handed out, the lines give back the bits, with only zeros after them." What stands in quotes is its text.
use Rattle.std.specs.Prelude.{Result, Ok, ℕ, ◌-◌, ◌*◌, ◌≤◌, ◌≡◌, List, [], ◌∷◌, ◌++◌, map, length, take, replicate}
use Rattle.parsers.specs.Bits.{bit_at, cut}
use Rattle.armour.specs.Armour.{size}
use Rattle.armour.specs.Unarmor.{Unarmors}
use Rattle.refusal.specs.declared.Refusal.{Refusal}
use Rattle.reassembly.specs.Record.{fresh_record}
use Rattle.writer.specs.Message.{Message, lines_in}
use Rattle.delivery.specs.Delivery.{Answer, unfinished, complete}
use Rattle.delivery.specs.Lines.{cut_after_lf}
use Rattle.delivery.specs.Calls.{Sent, message_in, Call, answer_in, Calls}

-- how the lines of a message are answered where none is refused and the last one hands out a payload and a fill
abbrev pub whole_at_last : Message → List ℕ → ℕ → List Answer
whole_at_last m payload fill = replicate (lines_in m - 1) unfinished ++ complete payload fill ∷ []

-- a call that unarmors, where n bits of d come back: it is answered with so many bytes, and they hold "the bits, with only zeros after them"
pub record BitsBack (n : ℕ) (d : List ℕ) (r : Result ℕ Refusal) (out : List ℕ) : Type 0 where
  pub bytes : ℕ
  pub told : r ≡ Ok bytes
  pub enough : n ≤ bytes * 8
  pub bits : (i : ℕ) → bit_at 8 (take bytes out) i ≡ cut n (bit_at 8 d) i

-- what was sent is read back: none of its lines is refused, and the last one hands out a payload and a fill;
-- "then unarmored with the fill handed out", into an output with room, "the lines give back the bits"
pub record ReadBack (s : Sent) (answers : List Answer) : Type 0 where
  pub payload : List ℕ
  pub fill : ℕ
  pub read : answers ≡ whole_at_last (message_in s) payload fill
  pub back : (out : List ℕ) (r : Result ℕ Refusal) (out' : List ℕ) → size (length payload) ≤ length out → Unarmors payload fill out r out'
      → BitsBack s.request.count s.bytes r out'

-- THE ROUND TRIP: what any call of the writer wrote, cut into lines, however each of them ends: "Read in order into a fresh record with decoding off"
abbrev pub RoundTrip : Type 0
RoundTrip =
    (s : Sent) (calls : List Call) → Calls fresh_record (cut_after_lf (take s.count s.out)) calls → ReadBack s (map answer_in calls)
