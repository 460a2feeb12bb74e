-- NOTHING IS LOST: what the exported calls give back is told by its parts. Assumes nothing.
use mathlib.Core.Path.{◌≡◌, ap}
use mathlib.Core.List.{List}
use Prim.Native.Nat.{ℕ}
use Rattle.sumturnip.specs.Calls.{Freshened, freshened_in, Fills, fills_in}

pub same_freshened : (a b : ℕ) (s t : List ℕ) → freshened_in a s ≡ freshened_in b t → (a ≡ b) × (s ≡ t)
same_freshened a b s t e = (ap (λ (f : Freshened). f.code) e, ap (λ (f : Freshened). f.state) e)

pub same_fills : (a b : ℕ) (o₁ o₂ n₁ n₂ : List ℕ) → fills_in a o₁ n₁ ≡ fills_in b o₂ n₂ → (a ≡ b) × (o₁ ≡ o₂) × (n₁ ≡ n₂)
same_fills a b o₁ o₂ n₁ n₂ e = (ap (λ (f : Fills). f.code) e, ap (λ (f : Fills). f.out) e, ap (λ (f : Fills). f.numbers) e)
