-- The promises of reading a field have one outcome: nothing of what is read is lost on paper. Assumes nothing.
use Rattle.std.proofs.Common.{Option, Some, None}
use mathlib.Core.Path.{◌≡◌, refl, sym, ap, ◌∙◌}
use mathlib.Core.List.{List}
use Prim.Native.Nat.{ℕ}
use Rattle.refusal.specs.Words.{Told}
use Rattle.refusal.specs.declared.Refusal.{Refusal}
use Rattle.refusal.proofs.Unique.{untold}
use Rattle.parsers.specs.Field.{Field, the_taken_in}

abbrev taken_by : Told ℕ → Option ℕ
taken_by = untold Some (λ (r : Refusal). None)

taken_back : (t : Option ℕ) → taken_by (the_taken_in t) ≡ t
taken_back (Some v) = refl
taken_back None = refl

pub same_taken : (t u : Option ℕ) → the_taken_in t ≡ the_taken_in u → t ≡ u
same_taken t u e = sym (taken_back t) ∙ ap taken_by e ∙ taken_back u

pub field_unique : (d : List ℕ) (at w r₁ r₂ : ℕ) → Field d at w r₁ → Field d at w r₂ → r₁ ≡ r₂
field_unique d at w r₁ r₂ p q = p.is ∙ sym q.is
