-- A rate as a count of 10 ^ -9: where it is 0, and how it is worked out in 64 bits. Assumes nothing.
use Prim.Native.Nat.{ℕ, ◌+◌, ◌*◌, ◌/◌, ◌%◌, ◌^◌, ◌≤◌, ◌<◌}
use native.Mathlib.Omega.{arith}
use native.Mathlib.Nat.{div-eq_of_lt, pow-suc}
use native.Mathlib.Numerals.{add-one}
use mathlib.Core.Path.{◌≡◌, refl, sym, ap, ◌∙◌}
use mathlib.Core.Bool.{Bool, true, false}
use lib.Dec.{ltb}
use lib.Pow.{pow_mono, shl_exact}
use native.Mathlib.Nat.{one-mul}
use borrow.Author.Tests.{le-ltb, ltb-true}
use Rattle.refusal.specs.Words.{pick}
use Rattle.face_values.specs.Rate.{patterns, significand_of, shift_of, billionths_of}

-- 1 shifted to the left
pub power : (s : ℕ) → s ≤ 60 → (1 * 2 ^ s % 2 ^ 64 ≡ 2 ^ s) × (2 ^ s ≤ 2 ^ 60)
power s h = (shl_exact 1 s 64 (omega arith) (omega arith) ∙ one-mul (2 ^ s), pow_mono h)

significand_lt : (p : ℕ) → significand_of p < 2 ^ 24
significand_lt p = go (ltb p (2 ^ 23)) refl
  where
    go : (b : Bool) → ltb p (2 ^ 23) ≡ b → pick b (p * 2) (2 ^ 23 + p % 2 ^ 23) < 2 ^ 24
    go true e = omega (arith, ltb-true p (2 ^ 23) e)
    go false e = omega arith

module _ (p : ℕ) (fits : p < patterns) where
  pub tiny : 60 < shift_of p → 0 ≡ billionths_of p
  unfolding billionths_of
  tiny h =
      let x = significand_of p * (2 * 10 ^ 9) in
      let s = shift_of p in
      let small : x < 2 ^ 61 = omega (arith, significand_lt p) in
      let large : 2 ^ 61 ≤ 2 ^ s = pow_mono h in
      let z : 2 ^ (s + 1) ≡ 2 ^ s * 2 = ap (λ (k : ℕ). 2 ^ k) (add-one s) ∙ pow-suc 2 s in
      let w : x + 2 ^ s < 2 ^ (s + 1) = omega arith in
      sym (div-eq_of_lt w)

  pub near : shift_of p ≤ 60
      → ((2 ^ 23 + p % 2 ^ 23) * (2 * 10 ^ 9) + 1 * 2 ^ shift_of p % 2 ^ 64) / 2 ^ (shift_of p + 1) ≡ billionths_of p
  unfolding billionths_of
  near h = rw ((power (shift_of p) h).0, le-ltb p (2 ^ 23) (omega arith))
