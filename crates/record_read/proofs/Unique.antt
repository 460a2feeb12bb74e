-- NOTHING IS LOST: what reading a line gives back is told by its parts. Assumes nothing.
use mathlib.Core.Path.{◌≡◌, ap}
use mathlib.Core.List.{List}
use Prim.Native.Nat.{ℕ}
use Rattle.record_read.specs.Read.{Read, read_in}

-- the answer, the record's bytes, both buffers, the numbers and the texts
pub same_read : (a b : ℕ) (s₁ s₂ p₁ p₂ b₁ b₂ n₁ n₂ t₁ t₂ : List ℕ) → read_in a s₁ p₁ b₁ n₁ t₁ ≡ read_in b s₂ p₂ b₂ n₂ t₂
    → (a ≡ b) × (s₁ ≡ s₂) × (p₁ ≡ p₂) × (b₁ ≡ b₂) × (n₁ ≡ n₂) × (t₁ ≡ t₂)
same_read a b s₁ s₂ p₁ p₂ b₁ b₂ n₁ n₂ t₁ t₂ e = (
  ap (λ (r : Read). r.code) e,
  ap (λ (r : Read). r.state) e,
  ap (λ (r : Read). r.payload) e,
  ap (λ (r : Read). r.bits) e,
  ap (λ (r : Read). r.numbers) e,
  ap (λ (r : Read). r.texts) e,
)
