-- What a call answers, and the first sixteen numbers of an answer: a refusal's two values, and the sentence. What does not apply is 0.
use Rattle.std.specs.Prelude.{ℕ, List, [], ◌∷◌, length, get_or}
use Rattle.refusal.specs.Words.{Told, taken, refused}
use Rattle.sentence.specs.declared.TalkerId.{TalkerId}
use Rattle.sentence.specs.declared.AisReportType.{AisReportType}
use Rattle.answer.specs.Answer.{Progress, complete, unfinished}
use Rattle.answer.specs.declared.Sentence.{Sentence}
use Rattle.layout_numbers.specs.Optional.{there_of, value_of}

-- what a call answers: 0 where a message is complete, 100 where more is to come, else document 01's number of the refusal
abbrev pub code_of : Told Progress → ℕ
code_of (taken complete) = 0
code_of (taken unfinished) = 100
code_of (refused n values) = n

-- what a refusal also returns: at most two numbers
abbrev pub values_of : Told Progress → List ℕ
values_of (taken p) = 0 ∷ 0 ∷ []
values_of (refused n values) = get_or values 0 0 ∷ get_or values 1 0 ∷ []

-- how many it returns
abbrev pub value_count : Told Progress → ℕ
value_count (taken p) = 0
value_count (refused n values) = length values

-- of what answers with a count, unarmoring alone and the writer: how many bytes stand first in the output, or the value that a refusal also returns
abbrev pub count_of : Told ℕ → ℕ
count_of (taken n) = n
count_of (refused n values) = get_or values 0 0

-- the talkers in the order of document 000's list, from 1 on; 0 is one that it does not know
abbrev pub talker_number : TalkerId → ℕ
talker_number TalkerId.Unknown = 0
talker_number TalkerId.AB = 1
talker_number TalkerId.AD = 2
talker_number TalkerId.AI = 3
talker_number TalkerId.AN = 4
talker_number TalkerId.AR = 5
talker_number TalkerId.AS = 6
talker_number TalkerId.AT = 7
talker_number TalkerId.AX = 8
talker_number TalkerId.BS = 9
talker_number TalkerId.SA = 10

-- VDM, VDO, or one that is not known
abbrev pub report_number : AisReportType → ℕ
report_number AisReportType.Unknown = 0
report_number AisReportType.VDM = 1
report_number AisReportType.VDO = 2

-- the sentence: fourteen numbers
abbrev pub sentence_numbers : Sentence → List ℕ
sentence_numbers s =
    talker_number s.talker_id
    ∷ report_number s.report_type
    ∷ s.num_fragments
    ∷ s.fragment_number
    ∷ there_of s.message_id
    ∷ value_of s.message_id
    ∷ there_of s.channel
    ∷ value_of s.channel
    ∷ s.fill_bit_count
    ∷ s.message_type
    ∷ there_of s.true_type
    ∷ value_of s.true_type
    ∷ s.payload_len
    ∷ s.sent_bits
    ∷ []
