-- `value`: a byte of each range. Assumes nothing.
use native.Mathlib.Omega.{arith}
use Rattle.armour.proofs.Laws.{meaning_low, meaning_high, armour_in}
use Rattle.armour.proofs.value.Goals as goal

pub overflow_sub-result : goal.overflow_sub-result
overflow_sub-result c = armour_in _ _ c.requires (λ l m. l) (λ l m. omega arith)

pub overflow_sub-result-else-b-lt88 : goal.overflow_sub-result-else-b-lt88
overflow_sub-result-else-b-lt88 c = armour_in _ _ c.requires (λ l m. omega arith) (λ l m. omega arith)

pub returns-then-b-lt88 : goal.returns-then-b-lt88
returns-then-b-lt88 c = armour_in _ _ c.requires (meaning_low _) (λ l m. absurd (omega arith))

pub returns-else-b-lt88 : goal.returns-else-b-lt88
returns-else-b-lt88 c = armour_in _ _ c.requires (λ l m. absurd (omega arith)) (meaning_high _)
