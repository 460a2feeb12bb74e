-- The numbers that tell a request are those by which an answer tells its parts, and no others: what is read can be written. Assumes nothing.
use mathlib.Core.Path.{◌≡◌, refl}
use mathlib.Core.Bool.{Bool, true, false, ◌&&◌}
use mathlib.Core.List.{List, [], ◌∷◌}
use Prim.Native.Nat.{ℕ, zero, suc, ◌≤◌, ◌<◌}
use native.Mathlib.Omega.{arith}
use borrow.Author.Tests.{le-leb, eqb-true}
use lib.Dec.{eqb, leb}
use Rattle.std.specs.Prelude.{Option, Some, None}
use Rattle.refusal.specs.Words.{pick}
use Rattle.sentence.specs.Written.{AOrB}
use Rattle.sentence.specs.declared.TalkerId.{TalkerId}
use Rattle.sentence.specs.declared.AisReportType.{AisReportType}
use Rattle.writer.specs.Writer.{outside}
use Rattle.writer.specs.declared.Request.{Request}
use Rattle.writer.proofs.Sendable.{sendable}
use Rattle.layout_numbers.specs.Optional.{there_of, value_of, two_of}
use Rattle.layout_answer.specs.Sentence.{talker_number, report_number}
use Rattle.sumturnip.specs.Request.{talker_by, report_by, byte_by, channel_by, request_by}

talker-back : (t : TalkerId) → talker_by (talker_number t) ≡ t
unfolding talker_by
talker-back TalkerId.Unknown = refl
talker-back TalkerId.AB = refl
talker-back TalkerId.AD = refl
talker-back TalkerId.AI = refl
talker-back TalkerId.AN = refl
talker-back TalkerId.AR = refl
talker-back TalkerId.AS = refl
talker-back TalkerId.AT = refl
talker-back TalkerId.AX = refl
talker-back TalkerId.BS = refl
talker-back TalkerId.SA = refl

report-back : (t : AisReportType) → report_by (report_number t) ≡ t
unfolding report_by
report-back AisReportType.Unknown = refl
report-back AisReportType.VDM = refl
report-back AisReportType.VDO = refl

channel-back : (c : Option ℕ) → value_of c ≤ 255 → channel_by (there_of c) (value_of c) ≡ c
unfolding channel_by
channel-back None h = refl
channel-back (Some b) h = rw (le-leb b 255 h)

-- every request is that of its numbers
pub told_back : (q : Request) → value_of q.channel ≤ 255 → q.message_id ≤ 255
    → request_by q.count (talker_number q.talker_id) (report_number q.report_type) (there_of q.channel) (value_of q.channel)
    q.message_id
    ≡ q
told_back q b n =
    rw (talker-back q.talker_id, report-back q.report_type, channel-back q.channel b, le-leb q.message_id 255 n)

talker_known : (n : ℕ) → (talker_by n ≡ TalkerId.Unknown → ⊥) → talker_number (talker_by n) ≡ n
unfolding talker_by
talker_known zero h = absurd (h refl)
talker_known (suc zero) h = refl
talker_known (suc (suc zero)) h = refl
talker_known (suc (suc (suc zero))) h = refl
talker_known (suc (suc (suc (suc zero)))) h = refl
talker_known (suc (suc (suc (suc (suc zero))))) h = refl
talker_known (suc (suc (suc (suc (suc (suc zero)))))) h = refl
talker_known (suc (suc (suc (suc (suc (suc (suc zero))))))) h = refl
talker_known (suc (suc (suc (suc (suc (suc (suc (suc zero)))))))) h = refl
talker_known (suc (suc (suc (suc (suc (suc (suc (suc (suc zero))))))))) h = refl
talker_known (suc (suc (suc (suc (suc (suc (suc (suc (suc (suc zero)))))))))) h = refl
talker_known (suc (suc (suc (suc (suc (suc (suc (suc (suc (suc (suc n))))))))))) h = absurd (h refl)

report_known : (n : ℕ) → (report_by n ≡ AisReportType.Unknown → ⊥) → report_number (report_by n) ≡ n
unfolding report_by
report_known zero h = absurd (h refl)
report_known (suc zero) h = refl
report_known (suc (suc zero)) h = refl
report_known (suc (suc (suc n))) h = absurd (h refl)

byte_known : (n : ℕ) → byte_by n < 255 → byte_by n ≡ n
byte_known n = capped (leb n 255)
  where
    capped : (b : Bool) → pick b n 255 < 255 → pick b n 255 ≡ n
    capped true h = refl
    capped false h = absurd (omega arith)

module _ (there n : ℕ) where
  sent_known : (c : Bool) → (c ≡ true → there ≡ 1) → AOrB (Some (pick c (byte_by n) 255))
      → two_of (Some (pick c (byte_by n) 255)) ≡ there ∷ n ∷ []
  sent_known true e h = rw (e refl, byte_known n (omega (arith, h.1)))
  sent_known false e h = absurd (omega (arith, h.1))

  channel-by : (a b c : Bool) → (a ≡ true → there ≡ 0) → (b ≡ true → n ≡ 0) → (c ≡ true → there ≡ 1)
      → AOrB (pick (a && b) None (Some (pick c (byte_by n) 255)))
      → two_of (pick (a && b) None (Some (pick c (byte_by n) 255))) ≡ there ∷ n ∷ []
  channel-by true true c p q r h = rw (p refl, q refl)
  channel-by true false c p q r h = sent_known c r h
  channel-by false b c p q r h = sent_known c r h

  channel_known : AOrB (channel_by there n) → two_of (channel_by there n) ≡ there ∷ n ∷ []
  unfolding channel_by
  channel_known = channel-by (eqb there 0) (eqb n 0) (eqb there 1) (eqb-true there 0) (eqb-true n 0) (eqb-true there 1)

-- numbers that the writer does not refuse are those by which an answer tells talker, report type, channel and message number: any other is refusal 13
pub no_others : (count talker report there channel number : ℕ) (d : List ℕ) → outside (request_by count talker report there channel number) d ≡ false
    → (talker_number (talker_by talker) ≡ talker) × (report_number (report_by report) ≡ report)
    × (two_of (channel_by there channel) ≡ there ∷ channel ∷ []) × (byte_by number ≡ number)
no_others count talker report there channel number d inside =
    let s = sendable (request_by count talker report there channel number) d inside in (
      talker_known talker s.known_talker,
      report_known report s.known_report,
      channel_known there channel s.channel-letter,
      byte_known number (omega (arith, s.digit)),
    )
