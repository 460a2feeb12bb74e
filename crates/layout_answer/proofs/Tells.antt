-- The parts of what an answer tells, put together. Assumes nothing.
use mathlib.Core.Path.{◌≡◌, ap}
use mathlib.Core.List.{List}
use Prim.Native.Nat.{ℕ}
use Rattle.text_out.specs.Text.{Text, text, put}
use Rattle.answer.specs.Answer.{outcome_in}
use Rattle.answer.specs.declared.Answer.{Answer}
use Rattle.layout_answer.specs.Sentence.{code_of}
use Rattle.layout_message.specs.Message.{message_texts}
use Rattle.layout_answer.specs.Answer.{answer_numbers, told_in, told_of}

pub together : (a : Answer) (numbers texts : List ℕ) {code p : ℕ} {numbers' texts' : List ℕ} {x : Text} → code ≡ code_of (outcome_in a.outcome)
    → text p numbers' ≡ put (text 0 numbers) (answer_numbers a) → x ≡ put (text 0 texts) (message_texts a.message) → texts' ≡ x.bytes
    → told_in code numbers' texts' ≡ told_of a numbers texts
together a numbers texts c n t b = rw (c, ap (λ (x : Text). x.bytes) n, b, ap (λ (x : Text). x.bytes) t)
