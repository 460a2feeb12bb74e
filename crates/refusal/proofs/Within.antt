-- When a number lies within a range. Assumes nothing.
use mathlib.Core.Path.{◌≡◌, refl, sym}
use mathlib.Core.Bool.{Bool, true, false, ◌&&◌, true≢false}
use Prim.Native.Nat.{ℕ, ◌≤◌, ◌<◌}
use borrow.Author.Tests.{le-leb, lt-leb, leb-true}
use lib.Dec.{leb}
use Rattle.refusal.specs.Words.{within}

module _ (lo hi b : ℕ) where
  pub in_range : lo ≤ b → b ≤ hi → within lo hi b ≡ true
  unfolding within
  in_range p q = simp (le-leb lo b p, le-leb b hi q)

  pub below_range : b < lo → within lo hi b ≡ false
  unfolding within
  below_range p = simp (lt-leb lo b p)

  pub above_range : lo ≤ b → hi < b → within lo hi b ≡ false
  unfolding within
  above_range p q = simp (le-leb lo b p, lt-leb b hi q)

  pub range_in : within lo hi b ≡ true → (lo ≤ b) × (b ≤ hi)
  unfolding within
  range_in e = go (leb lo b) (leb b hi) refl refl e where
    go : (p q : Bool) → leb lo b ≡ p → leb b hi ≡ q → (p && q) ≡ true → (lo ≤ b) × (b ≤ hi)
    go true true p q e = (leb-true lo b p, leb-true b hi q)
    go true false p q e = absurd (true≢false (sym e))
    go false q p r e = absurd (true≢false (sym e))
