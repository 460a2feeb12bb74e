-- What is told of a line, and its answer in numbers and texts.
use Rattle.std.specs.Prelude.{ℕ, ◌≡◌, List, length}
use Rattle.answer.specs.Answer.{Heard, heard_in}
use Rattle.answer.specs.declared.Answer.{Answer}
use Rattle.layout_message.specs.Message.{message_texts}
use Rattle.layout_answer.specs.Answer.{told_in, told_of}

-- what is told of a line, with its answer in numbers and texts
pub record Hears (h : Heard) (numbers texts : List ℕ) (code : ℕ) (payload' bits' numbers' texts' : List ℕ) : Type 0 where
  pub answer : Answer
  pub heard : heard_in answer payload' bits' ≡ h
  pub told : told_in code numbers' texts' ≡ told_of answer numbers texts
  pub texted : length (message_texts answer.message) ≡ 80
