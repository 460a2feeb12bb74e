-- An outcome is known by its code: 0 and 100 are no refusal's numbers. Assumes nothing.
use native.Mathlib.Omega.{arith}
use mathlib.Core.Path.{◌≡◌, refl}
use Rattle.refusal.specs.declared.Refusal.{Refusal}
use Rattle.answer.specs.Answer.{outcome_in}
use Rattle.answer.specs.declared.Outcome.{Outcome}
use Rattle.layout_answer.specs.Sentence.{code_of}
use Rattle.json_told.proofs.Refused.{numbered}

pub complete-by : (o : Outcome) → code_of (outcome_in o) ≡ 0 → o ≡ Outcome.Complete
complete-by Outcome.Complete e = refl
complete-by Outcome.Unfinished e = absurd (omega arith)
complete-by (Outcome.Refused r) e = let n = numbered r in absurd (omega (arith, n))

pub unfinished-by : (o : Outcome) → code_of (outcome_in o) ≡ 100 → o ≡ Outcome.Unfinished
unfinished-by Outcome.Complete e = absurd (omega arith)
unfinished-by Outcome.Unfinished e = refl
unfinished-by (Outcome.Refused r) e = let n = numbered r in absurd (omega (arith, n))

pub record IsRefused (o : Outcome) : Type 0 where
  pub refusal : Refusal
  pub is : o ≡ Outcome.Refused refusal

pub refused-by : (o : Outcome) → (code_of (outcome_in o) ≡ 0 → ⊥) → (code_of (outcome_in o) ≡ 100 → ⊥) → IsRefused o
refused-by Outcome.Complete x y = absurd (x refl)
refused-by Outcome.Unfinished x y = absurd (y refl)
refused-by (Outcome.Refused r) x y = record { refusal = r; is = refl }
