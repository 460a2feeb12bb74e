-- NOTHING IS LOST: what is heard of a line on paper tells the answer and both buffers. Assumes nothing.
use mathlib.Core.Path.{◌≡◌, refl, sym, ap, ◌∙◌}
use mathlib.Core.List.{List}
use Prim.Native.Nat.{ℕ}
use Rattle.refusal.specs.Words.{Told}
use Rattle.refusal.proofs.Unique.{untold, untold_told}
use Rattle.answer.specs.Answer.{Progress, complete, unfinished, outcome_in, Heard, heard_in, plainly}
use Rattle.answer.specs.declared.Outcome.{Outcome}
use Rattle.answer.specs.declared.Answer.{Answer}
use Rattle.answer.specs.declared.Plain.{Plain}

abbrev progress_by : Progress → Outcome
progress_by complete = Outcome.Complete
progress_by unfinished = Outcome.Unfinished

abbrev pub outcome_by : Told Progress → Outcome
outcome_by = untold progress_by Outcome.Refused

pub outcome_back : (o : Outcome) → outcome_by (outcome_in o) ≡ o
outcome_back Outcome.Complete = refl
outcome_back Outcome.Unfinished = refl
outcome_back (Outcome.Refused r) = untold_told {A = Progress} progress_by Outcome.Refused r

-- the answer, from what is heard
abbrev answer_by : Heard → Answer
answer_by h = record { outcome = outcome_by h.told; sentence = h.sentence; message = h.message }

answer_back : (a : Answer) (payload bits : List ℕ) → answer_by (heard_in a payload bits) ≡ a
answer_back a payload bits = rw (outcome_back a.outcome)

-- an answer's outcome and sentence, which are all of a plain one
abbrev plain_by : Answer → Plain
plain_by a = record { outcome = a.outcome; sentence = a.sentence }

-- two plain ones of one answer are the same
pub same_plain : (p q : Plain) → plainly p ≡ plainly q → p ≡ q
same_plain p q e = ap plain_by e

-- two answers, with their buffers, of which the same is heard are the same
pub same_heard : (a b : Answer) (p q x y : List ℕ) → heard_in a p x ≡ heard_in b q y → (a ≡ b) × (p ≡ q) × (x ≡ y)
same_heard a b p q x y e = (
  sym (answer_back a p x) ∙ ap answer_by e ∙ answer_back b q y,
  ap (λ (h : Heard). h.payload) e,
  ap (λ (h : Heard). h.bits) e,
)

-- the same of plain ones, at a bit buffer that the call does not touch
pub same_plainly : (p q : Plain) (l m x : List ℕ) → heard_in (plainly p) l x ≡ heard_in (plainly q) m x → (p ≡ q) × (l ≡ m)
same_plainly p q l m x e = let h = same_heard (plainly p) (plainly q) l m x x e in (same_plain p q h.0, h.1)
