-- The sender of a line that is refused because its type is not decoded.
use Rattle.std.specs.Prelude.{ℕ, List, eqb, ltb, take, replicate, Option, None, Some}
use Rattle.refusal.specs.Words.{pick, left}
use Rattle.reassembly.specs.declared.Record.{Record}
use Rattle.armour.specs.Armour.{unarmored}
use Rattle.armour.specs.Unarmor.{answer_of}
use Rattle.ais.specs.Call.{Called, called_of}
use Rattle.answer.specs.declared.Decode.{Decode}
use Rattle.parsers.specs.Field.{field_of}

-- refusal 10 writes no buffers, so the line is read once more with decoding off, which hands its payload out
unfoldable pub plain_of : Record → List ℕ → Called
plain_of found line = called_of found line Decode.Off (replicate 384 0) (replicate 288 0)

-- bits 8 to 37 of the first seven characters: "type 6, repeat 2, MMSI 30". Of a message that is refused with 10 every character can be unarmored
abbrev pub mmsi_of : List ℕ → ℕ
mmsi_of payload = let s = take 7 payload in field_of (left (answer_of s 0 6) (unarmored s 0) (replicate 6 0)) 8 30

-- the sender of a message whose type is not decoded, where its bits were sent
abbrev pub sender_by : Called → Option ℕ
sender_by called = pick (ltb called.sentence.sent_bits 38) None (Some (mmsi_of called.payload))

abbrev pub sender_of : ℕ → Record → List ℕ → Option ℕ
sender_of n found line = pick (eqb n 10) (sender_by (plain_of found line)) None
