-- NOTHING IS LOST: an outcome is told by its code and values, a sentence by its numbers, and what is lent by what is told. Assumes nothing.
use mathlib.Core.Path.{◌≡◌, refl, sym, ap, ◌∙◌}
use mathlib.Core.List.{List}
use Prim.Native.Nat.{ℕ}
use lib.Dec.{eqb}
use lib.ListN.{get_or}
use Rattle.std.specs.Prelude.{Option, Some, None}
use Rattle.refusal.specs.Words.{pick}
use Rattle.refusal.specs.declared.Refusal.{Refusal}
use Rattle.refusal.proofs.Unique.{the_by_number}
use Rattle.sentence.specs.declared.TalkerId.{TalkerId}
use Rattle.sentence.specs.declared.AisReportType.{AisReportType}
use Rattle.answer.specs.Answer.{outcome_in}
use Rattle.answer.specs.declared.Outcome.{Outcome}
use Rattle.answer.specs.declared.Sentence.{Sentence}
use Rattle.layout_answer.specs.Answer.{Tells, told_in}
use Rattle.layout_numbers.specs.Optional.{there_of, value_of}
use Rattle.layout_answer.specs.Sentence.{code_of, values_of, talker_number, report_number, sentence_numbers}

-- ---- the outcome
abbrev outcome_by : ℕ → List ℕ → Outcome
outcome_by code values = pick (eqb code 0) Outcome.Complete (pick (eqb code 100) Outcome.Unfinished (Outcome.Refused (the_by_number code values)))

refusal_back : (r : Refusal) → outcome_by (code_of (outcome_in (Outcome.Refused r))) (values_of (outcome_in (Outcome.Refused r))) ≡ Outcome.Refused r
refusal_back Refusal.LineTooLong = refl
refusal_back Refusal.Line = refl
refusal_back (Refusal.Checksum a b) = refl
refusal_back Refusal.MessageNumber = refl
refusal_back Refusal.FragmentNumber = refl
refusal_back Refusal.PayloadTooLong = refl
refusal_back Refusal.Fill = refl
refusal_back (Refusal.Armour a) = refl
refusal_back Refusal.Short = refl
refusal_back (Refusal.OtherType a) = refl
refusal_back (Refusal.UnknownType a) = refl
refusal_back Refusal.Room = refl
refusal_back Refusal.Request = refl

outcome_back : (o : Outcome) → outcome_by (code_of (outcome_in o)) (values_of (outcome_in o)) ≡ o
outcome_back Outcome.Complete = refl
outcome_back Outcome.Unfinished = refl
outcome_back (Outcome.Refused r) = refusal_back r

pub same_outcome : (o p : Outcome) → code_of (outcome_in o) ≡ code_of (outcome_in p) → values_of (outcome_in o) ≡ values_of (outcome_in p) → o ≡ p
same_outcome o p c v =
    sym (outcome_back o) ∙ ap (λ (n : ℕ). outcome_by n (values_of (outcome_in o))) c ∙ ap (outcome_by (code_of (outcome_in p))) v ∙ outcome_back p

-- ---- the sentence
abbrev talker_by : ℕ → TalkerId
talker_by n =
    pick (eqb n 1) TalkerId.AB (
    pick (eqb n 2) TalkerId.AD (
    pick (eqb n 3) TalkerId.AI (
    pick (eqb n 4) TalkerId.AN (
    pick (eqb n 5) TalkerId.AR (
    pick (eqb n 6) TalkerId.AS (
    pick (eqb n 7) TalkerId.AT (
    pick (eqb n 8) TalkerId.AX (
    pick (eqb n 9) TalkerId.BS (
    pick (eqb n 10) TalkerId.SA (
    TalkerId.Unknown))))))))))

talker-back : (t : TalkerId) → talker_by (talker_number t) ≡ t
talker-back TalkerId.Unknown = refl
talker-back TalkerId.AB = refl
talker-back TalkerId.AD = refl
talker-back TalkerId.AI = refl
talker-back TalkerId.AN = refl
talker-back TalkerId.AR = refl
talker-back TalkerId.AS = refl
talker-back TalkerId.AT = refl
talker-back TalkerId.AX = refl
talker-back TalkerId.BS = refl
talker-back TalkerId.SA = refl

abbrev report_by : ℕ → AisReportType
report_by n = pick (eqb n 1) AisReportType.VDM (pick (eqb n 2) AisReportType.VDO AisReportType.Unknown)

report-back : (t : AisReportType) → report_by (report_number t) ≡ t
report-back AisReportType.Unknown = refl
report-back AisReportType.VDM = refl
report-back AisReportType.VDO = refl

-- what may be absent
optional_back : (o : Option ℕ) → pick (eqb (there_of o) 0) None (Some (value_of o)) ≡ o
optional_back None = refl
optional_back (Some n) = refl

abbrev sentence_by : List ℕ → Sentence
sentence_by l = record {
  talker_id = talker_by (get_or l 0 0);
  report_type = report_by (get_or l 1 0);
  num_fragments = get_or l 2 0;
  fragment_number = get_or l 3 0;
  message_id = pick (eqb (get_or l 4 0) 0) None (Some (get_or l 5 0));
  channel = pick (eqb (get_or l 6 0) 0) None (Some (get_or l 7 0));
  fill_bit_count = get_or l 8 0;
  message_type = get_or l 9 0;
  true_type = pick (eqb (get_or l 10 0) 0) None (Some (get_or l 11 0));
  payload_len = get_or l 12 0;
  sent_bits = get_or l 13 0;
}

sentence-back : (s : Sentence) → sentence_by (sentence_numbers s) ≡ s
sentence-back s =
    rw (
      talker-back s.talker_id,
      report-back s.report_type,
      optional_back s.message_id,
      optional_back s.channel,
      optional_back s.true_type,
    )

pub same_sentence : (s t : Sentence) → sentence_numbers s ≡ sentence_numbers t → s ≡ t
same_sentence s t e = sym (sentence-back s) ∙ ap sentence_by e ∙ sentence-back t

-- ---- the code, and what is lent for the numbers and the texts
pub same_told : (a b : ℕ) (k l m n : List ℕ) → told_in a k m ≡ told_in b l n → (a ≡ b) × (k ≡ l) × (m ≡ n)
same_told a b k l m n e = (ap (λ (t : Tells). t.code) e, ap (λ (t : Tells). t.numbers) e, ap (λ (t : Tells). t.texts) e)
