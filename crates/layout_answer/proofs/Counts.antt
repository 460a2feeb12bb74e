-- An answer has fifty numbers. Assumes nothing.
use native.Mathlib.Omega.{arith}
use mathlib.Core.Path.{◌≡◌, refl}
use mathlib.Core.List.{◌++◌}
use lib.ListN.{length, length-append}
use Rattle.refusal.specs.Words.{Told, taken, refused}
use Rattle.answer.specs.Answer.{Progress, outcome_in}
use Rattle.answer.specs.declared.Answer.{Answer}
use Rattle.answer.specs.declared.Sentence.{Sentence}
use Rattle.messages.specs.declared.Message.{Message}
use Rattle.layout_answer.specs.Sentence.{values_of, sentence_numbers}
use Rattle.layout_message.specs.Message.{message_numbers}
use Rattle.layout_message.proofs.Counts.{message-length}
use Rattle.layout_answer.specs.Answer.{numbers_by, answer_numbers}

values_two : (t : Told Progress) → length (values_of t) ≡ 2
values_two (taken p) = refl
values_two (refused n values) = refl

pub numbers-length : (t : Told Progress) (s : Sentence) (m : Message) → length (numbers_by t s m) ≡ 50
numbers-length t s m =
    let l = length-append (values_of t) (sentence_numbers s ++ message_numbers m) in
    omega (arith, l, values_two t, message-length m)

pub answer-length : (a : Answer) → length (answer_numbers a) ≡ 50
answer-length a = numbers-length (outcome_in a.outcome) a.sentence a.message
