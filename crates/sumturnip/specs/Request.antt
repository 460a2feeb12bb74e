-- The request that numbers tell: those by which an answer tells talkers, report types, channels and message numbers (layout_answer/specs/Sentence.antt).
-- Any other number tells something that the writer refuses: "Anything else is refusal 13" (document 01, 'The writer').
use Rattle.std.specs.Prelude.{ℕ, ◌&&◌, List, [], ◌∷◌, eqb, leb, get_or, Option, Some, None}
use Rattle.refusal.specs.Words.{pick}
use Rattle.sentence.specs.declared.TalkerId.{TalkerId}
use Rattle.sentence.specs.declared.TalkerId.TheVariants.{Unknown, AB, AD, AI, AN, AR, AS, AT, AX, BS, SA}
use Rattle.sentence.specs.declared.AisReportType.{AisReportType}
use Rattle.writer.specs.declared.Request.{Request}

-- the talkers and the report types, each at the place of its number
abbrev pub talkers : List TalkerId
talkers = Unknown ∷ AB ∷ AD ∷ AI ∷ AN ∷ AR ∷ AS ∷ AT ∷ AX ∷ BS ∷ SA ∷ []

abbrev pub reports : List AisReportType
reports = AisReportType.Unknown ∷ AisReportType.VDM ∷ AisReportType.VDO ∷ []

unfoldable pub talker_by : ℕ → TalkerId
talker_by n = get_or talkers n Unknown

unfoldable pub report_by : ℕ → AisReportType
report_by n = get_or reports n AisReportType.Unknown

-- a byte; for a number that is none 255, which is neither a channel nor a message number of the writer's
abbrev pub byte_by : ℕ → ℕ
byte_by n = pick (leb n 255) n 255

-- a channel by two numbers: 1 and its byte; or 0 and 0, where there is none
unfoldable pub channel_by : ℕ → ℕ → Option ℕ
channel_by there n = pick (eqb there 0 && eqb n 0) None (Some (pick (eqb there 1) (byte_by n) 255))

-- a whole request: the count of bits, talker, report type, channel by two numbers, message number
abbrev pub request_by : ℕ → ℕ → ℕ → ℕ → ℕ → ℕ → Request
request_by count talker report there channel number = record {
  count = count;
  talker_id = talker_by talker;
  report_type = report_by report;
  channel = channel_by there channel;
  message_id = byte_by number;
}
