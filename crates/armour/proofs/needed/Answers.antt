-- `needed`: each way out is one law of the answer (proofs/Answers). Assumes nothing.
use mathlib.Core.Path.{sym, ap, ◌∙◌}
use Prim.Native.Nat.{ℕ}
use borrow.Author.Tests.{leb-true, leb-false}
use mathlib.Core.List.{[], ◌∷◌}
use Rattle.refusal.specs.Words.{refused}
use Rattle.armour.proofs.Answers.{says-7, says-6, says-12, says-8, says-taken}
use Rattle.armour.proofs.needed.Goals as goal

pub returns-then-bad_fill : goal.returns-then-bad_fill
returns-then-bad_fill c = sym (says-7 _ _ _ (sym c.bad_fill.ensures ∙ c.if-bad_fill.true))

pub returns-then-n-gt384 : goal.returns-then-n-gt384
returns-then-n-gt384 c = sym (says-6 _ _ _ (sym c.bad_fill.ensures ∙ c.if-bad_fill.false) c.if-n-gt384.true)

pub returns-then-room-need : goal.returns-then-room-need
returns-then-room-need c = sym (says-12 _ _ _ (sym c.bad_fill.ensures ∙ c.if-bad_fill.false) c.if-n-gt384.false c.if-room-need.true)

pub returns-then-all_armour : goal.returns-then-all_armour
returns-then-all_armour c =
    sym (says-taken _ _ _ (sym c.bad_fill.ensures ∙ c.if-bad_fill.false) c.if-n-gt384.false c.if-room-need.false
    (leb-true _ _ (sym c.all_armour.ensures ∙ c.if-all_armour.true)))

pub returns : goal.returns
returns c =
    ap (λ (x : ℕ). refused 8 (x ∷ [])) c.first_bad-at.ensures
    ∙ sym (says-8 _ _ _ (sym c.bad_fill.ensures ∙ c.if-bad_fill.false) c.if-n-gt384.false c.if-room-need.false
    (leb-false _ _ (sym c.all_armour.ensures ∙ c.if-all_armour.false)))
