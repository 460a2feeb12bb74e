-- All that an answer tells: its code, its fifty numbers and its texts.
use Rattle.std.specs.Prelude.{ℕ, List, ◌++◌}
use Rattle.refusal.specs.Words.{Told}
use Rattle.messages.specs.declared.Message.{Message}
use Rattle.answer.specs.Answer.{Progress, outcome_in}
use Rattle.answer.specs.declared.Answer.{Answer}
use Rattle.answer.specs.declared.Sentence.{Sentence}
use Rattle.text_out.specs.Text.{text, put}
use Rattle.layout_answer.specs.Sentence.{code_of, values_of, sentence_numbers}
use Rattle.layout_message.specs.Message.{message_numbers, message_texts}

-- two values, fourteen numbers of the sentence, thirty-four of the message
abbrev pub numbers_by : Told Progress → Sentence → Message → List ℕ
numbers_by told sentence message = values_of told ++ (sentence_numbers sentence ++ message_numbers message)

-- the same of an answer of the code
abbrev pub answer_numbers : Answer → List ℕ
answer_numbers a = numbers_by (outcome_in a.outcome) a.sentence a.message

-- the code, and what is lent for the numbers and the texts
pub record Tells : Type 0 where
  pub code : ℕ
  pub numbers : List ℕ
  pub texts : List ℕ

abbrev pub told_in : ℕ → List ℕ → List ℕ → Tells
told_in code numbers texts = record { code = code; numbers = numbers; texts = texts }

-- each put from the start on
abbrev pub told_of : Answer → List ℕ → List ℕ → Tells
told_of a numbers texts =
    told_in (code_of (outcome_in a.outcome)) (put (text 0 numbers) (answer_numbers a)).bytes (put (text 0 texts) (message_texts a.message)).bytes
