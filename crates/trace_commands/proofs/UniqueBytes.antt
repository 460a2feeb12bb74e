-- ONE OUTCOME: the promise of reading a word's bytes fits one answer and one buffer. Assumes nothing.
use mathlib.Core.Path.{◌≡◌, sym, ◌∙◌}
use mathlib.Core.List.{List}
use Prim.Native.Nat.{ℕ}
use Rattle.std.specs.Prelude.{Option}
use Rattle.trace_commands.specs.Hex.{Fills}

pub unique : (w buffer : List ℕ) (r₁ r₂ : Option ℕ) (o₁ o₂ : List ℕ) → Fills w buffer r₁ o₁ → Fills w buffer r₂ o₂ → (r₁ ≡ r₂) × (o₁ ≡ o₂)
unique w buffer r₁ r₂ o₁ o₂ p q = (p.answers ∙ sym q.answers, p.leaves ∙ sym q.leaves)
