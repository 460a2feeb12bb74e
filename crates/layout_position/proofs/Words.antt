-- A signed number of 32 bits as the 64 bits of its two's complement, as the machine computes it: by -1 - v for a v below 0. Assumes nothing.
use Prim.Native.Nat.{ℕ, suc, ◌-◌, ◌^◌}
use native.Mathlib.Omega.{arith}
use mathlib.Core.Path.{◌≡◌, refl, ap, ◌∙◌, subst}
use mathlib.Core.Bool.{true, false}
use lib.Dec.{T}
use lib.IntN.{ℤ, pos, negsuc, ◌-ℤ◌, nat_abs}
use lib.Signed.{mag, lt_z, non_neg}
use mir.Syntax.{w32, w64}
use mir.Val.{to_z, of_z, SFits, Fits}
use mir.Facts.{to_z-of_z}
use borrow.Author.Tests.{ltb-true, lt-leb}
use Rattle.layout_position.specs.Position.{word_of}

flip : (k : ℕ) → negsuc 0 -ℤ negsuc k ≡ pos k
flip k = let z : suc k - 1 ≡ k = omega arith in rw (lt-leb (suc (suc k)) 1 (omega arith), z)

-- a number below 0, and any other
below : (z : ℤ) → lt_z z (pos 0) ≡ true → (negsuc 0 -ℤ z ≡ pos (mag z)) × (2 ^ 64 - 1 - mag z ≡ word_of z)
below (pos n) e = absurd (omega (arith, ltb-true n 0 e))
below (negsuc n) e = (flip n, refl)

above : (z : ℤ) → lt_z z (pos 0) ≡ false → T (non_neg z) × (nat_abs z ≡ mag z) × (nat_abs z ≡ word_of z)
above (pos n) e = (tt, refl, refl)
above (negsuc n) e = let w : true ≡ false = e in let x : ◌≡◌ {A = ℕ} 0 1 = cc in absurd (omega arith)

-- the same of what the machine reads back from the bits of v
module _ (v : ℤ) (fits : SFits w32 v) where
  back : to_z w32 (of_z w32 v) ≡ v
  back = to_z-of_z {w = w32} {z = v} fits

  module _ (b : lt_z (to_z w32 (of_z w32 v)) (pos 0) ≡ true) where
    below_0 : (negsuc 0 -ℤ v ≡ pos (mag v)) × (2 ^ 64 - 1 - mag v ≡ word_of v)
    below_0 = below v (subst (λ (z : ℤ). lt_z z (pos 0) ≡ true) back b)

    turned : negsuc 0 -ℤ to_z w32 (of_z w32 v) ≡ pos (mag v)
    turned = ap (λ (z : ℤ). negsuc 0 -ℤ z) back ∙ below_0.0

    pub turned_fits : SFits w32 (negsuc 0 -ℤ to_z w32 (of_z w32 v))
    turned_fits = rw turned (record { sfits = fits.sfits })

    pub turned_back : to_z w32 (of_z w32 (negsuc 0 -ℤ to_z w32 (of_z w32 v))) ≡ pos (mag v)
    turned_back = to_z-of_z {w = w32} {z = negsuc 0 -ℤ to_z w32 (of_z w32 v)} turned_fits ∙ turned

    pub below_word : 2 ^ 64 - 1 - mag v ≡ word_of v
    below_word = below_0.1

  module _ (a : lt_z (to_z w32 (of_z w32 v)) (pos 0) ≡ false) where
    from_0 : T (non_neg v) × (nat_abs v ≡ mag v) × (nat_abs v ≡ word_of v)
    from_0 = above v (subst (λ (z : ℤ). lt_z z (pos 0) ≡ false) back a)

    pub above_cast : T (non_neg (to_z w32 (of_z w32 v))) × Fits w64 (nat_abs (to_z w32 (of_z w32 v)))
    above_cast = rw back (from_0.0, record { fits = omega (arith, fits.sfits, from_0.1) })

    pub above_word : nat_abs (to_z w32 (of_z w32 v)) ≡ word_of v
    above_word = ap nat_abs back ∙ from_0.2
