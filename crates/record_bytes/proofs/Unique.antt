-- The promise of a join in lent bytes has one outcome. Assumes nothing.
use mathlib.Core.Path.{◌≡◌, sym, ◌∙◌}
use mathlib.Core.List.{List}
use Prim.Native.Nat.{ℕ}
use Rattle.std.specs.Prelude.{Result}
use Rattle.refusal.specs.declared.Refusal.{Refusal}
use Rattle.reassembly.specs.Record.{Join}
use Rattle.reassembly.specs.declared.Part.{Part}
use Rattle.reassembly.proofs.Unique.{same_part}
use Rattle.record_bytes.specs.Joined.{Joins}

pub unique : (j : Join) (state : List ℕ) (r₁ r₂ : Result Part Refusal) (s₁ s₂ : List ℕ) → Joins j state r₁ s₁ → Joins j state r₂ s₂ → (r₁ ≡ r₂) × (s₁ ≡ s₂)
unique j state r₁ r₂ s₁ s₂ p q = (same_part r₁ r₂ (p.told ∙ sym q.told), p.stored ∙ sym q.stored)
