-- The promise of what a line tells in numbers and texts has one outcome: the code, the buffers, the numbers and the texts. Assumes nothing.
use mathlib.Core.Path.{◌≡◌, sym, ap, ◌∙◌}
use mathlib.Core.List.{List}
use Prim.Native.Nat.{ℕ}
use Rattle.answer.specs.Answer.{Heard}
use Rattle.answer.specs.declared.Answer.{Answer}
use Rattle.answer.proofs.Unique.{same_heard}
use Rattle.layout_answer.specs.Answer.{told_of}
use Rattle.layout_answer.proofs.Unique.{same_told}
use Rattle.layout_told.specs.Told.{Hears}

pub unique : (h : Heard) (numbers texts : List ℕ) (c d : ℕ) (p q x y n m s t : List ℕ) → Hears h numbers texts c p x n s → Hears h numbers texts d q y m t
    → ((c ≡ d) × (n ≡ m) × (s ≡ t)) × ((p ≡ q) × (x ≡ y))
unique h numbers texts c d p q x y n m s t a b =
    let e = same_heard a.answer b.answer p q x y (a.heard ∙ sym b.heard) in
    (same_told c d n m s t (a.told ∙ ap (λ (z : Answer). told_of z numbers texts) e.0 ∙ sym b.told), (e.1, e.2))
