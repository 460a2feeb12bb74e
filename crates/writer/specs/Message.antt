-- A message to be sent, and the lines that the writer cuts it into: document 01, 'The writer'. What stands in quotes is its text.
use Rattle.std.specs.Prelude.{ℕ, zero, suc, ◌+◌, ◌-◌, ◌*◌, ◌/◌, ◌≤◌, ◌<◌, ◌≡◌, List, [], ◌++◌, map, length, take, drop, eqb, Option, Some, None}
use Rattle.refusal.specs.Words.{pick}
use Rattle.parsers.specs.Bits.{bit_at, cut, pack}
use Rattle.armour.specs.Armour.{letter}
use Rattle.scan.specs.Scan.{All}
use Rattle.sentence.specs.Written.{Parts, line_text, AOrB}
use Rattle.sentence.specs.declared.TalkerId.{TalkerId}
use Rattle.sentence.specs.declared.AisReportType.{AisReportType}

-- how many characters n bits take, six bits each
abbrev pub chars_in : ℕ → ℕ
chars_in n = (n + 5) / 6

-- "it completes the final six bits"
abbrev pub fill_in : ℕ → ℕ
fill_in n = chars_in n * 6 - n

-- the first n bits of some bytes as characters, "with zeros" after them
unfoldable pub armoured : List ℕ → ℕ → List ℕ
armoured d n = map letter (pack 6 (chars_in n) (cut n (bit_at 8 d)))

-- a message: the whole payload in characters, and its fill
pub record Message : Type 0 where
  pub talker : TalkerId
  pub report : AisReportType
  pub channel : Option ℕ
  pub number : ℕ
  pub payload : List ℕ
  pub fill : ℕ

-- "Every line but the last carries 60 characters, the last 1 to 60"
unfoldable pub lines_in : Message → ℕ
lines_in m = (length m.payload + 59) / 60

-- line i, counted from 1. "The number is left empty for a single line. Fill is 0 but on the last line"
unfoldable pub parts_of : Message → ℕ → Parts
parts_of m i = record {
  talker = m.talker;
  report = m.report;
  total = lines_in m;
  number = i;
  id = pick (eqb (lines_in m) 1) None (Some m.number);
  channel = m.channel;
  payload = take 60 (drop (60 * (i - 1)) m.payload);
  fill = pick (eqb i (lines_in m)) m.fill 0;
}

unfoldable pub text_of : Message → ℕ → List ℕ
text_of m i = line_text (parts_of m i)

-- n lines from line i on, one after the other
unfoldable pub text_from : Message → ℕ → ℕ → List ℕ
text_from m i zero = []
text_from m i (suc n) = text_of m i ++ text_from m (i + 1) n

-- all lines of a message
unfoldable pub text_all : Message → List ℕ
text_all m = text_from m 1 (lines_in m)

-- a message that the writer can send: 1 to 2304 bits are 1 to 384 characters
pub record Sendable (m : Message) : Type 0 where
  pub known_talker : m.talker ≡ TalkerId.Unknown → ⊥
  pub known_report : m.report ≡ AisReportType.Unknown → ⊥
  pub channel-letter : AOrB m.channel
  pub digit : m.number ≤ 9
  pub armour : All (λ (b : ℕ). (48 ≤ b) × (b ≤ 119)) m.payload
  pub some-payload : 0 < length m.payload
  pub fits : length m.payload ≤ 384
  pub fill-small : m.fill ≤ 5
