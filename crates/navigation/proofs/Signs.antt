-- Two integers that fit a width are equal exactly when their bits are; what follows for a position, and the tests on a turn's sign. Assumes nothing.
use Rattle.std.specs.Prelude.{Some, None}
use mathlib.Core.Path.{◌≡◌, refl, sym, ap, ◌∙◌, subst}
use mathlib.Core.Bool.{Bool, true, false}
use Prim.Native.Nat.{zero, suc}
use native.Mathlib.Nat.{not-suc-le-zero}
use lib.IntN.{ℤ, pos, negsuc}
use lib.Signed.{lt_z}
use lib.Ieee.{Float}
use borrow.Author.Tests.{eqb-true, eq-eqb, ltb-true, ltb-false}
use mir.Syntax.{Width, w32}
use mir.Val.{SFits, of_z, to_z}
use mir.Facts.{to_z-of_z}
use Rattle.navigation.specs.Navigation.{eq_int, degrees_of, Coordinate, side_of}
use Rattle.navigation.specs.declared.Direction.{Direction}

same : (a : ℤ) → eq_int a a ≡ true
same (pos a) = eq-eqb a a refl
same (negsuc a) = eq-eqb a a refl

found : (a b : ℤ) → eq_int a b ≡ true → a ≡ b
found (pos a) (pos b) h = ap pos (eqb-true a b h)
found (pos a) (negsuc b) h = cc
found (negsuc a) (pos b) h = cc
found (negsuc a) (negsuc b) h = ap negsuc (eqb-true a b h)

pub equal : (w : Width) (a b : ℤ) → SFits w a → SFits w b → of_z w a ≡ of_z w b → eq_int a b ≡ true
equal w a b fa fb e = subst (λ (x : ℤ). eq_int a x ≡ true) (sym (to_z-of_z fa) ∙ ap (to_z w) e ∙ to_z-of_z fb) (same a)

pub differ : (w : Width) (a b : ℤ) → (of_z w a ≡ of_z w b → ⊥) → eq_int a b ≡ false
differ w a b n = go (eq_int a b) refl
  where
    go : (t : Bool) → eq_int a b ≡ t → t ≡ false
    go true h = absurd (n (ap (of_z w) (found a b h)))
    go false h = refl

-- ---- a position, by the test that the code makes on the bits
pub no_position : (absent raw : ℤ) → SFits w32 absent → SFits w32 raw → of_z w32 raw ≡ of_z w32 absent → Coordinate absent raw None
no_position absent raw fa fr e = record { is = simp (equal w32 raw absent fr fa e) }

pub a_position : (absent raw : ℤ) (x : Float) → (of_z w32 raw ≡ of_z w32 absent → ⊥) → x ≡ degrees_of raw → Coordinate absent raw (Some x)
a_position absent raw x n e = record { is = simp (differ w32 raw absent n, e) }

-- ---- the direction, by the tests that the code makes
pub to_port_lem : (z : ℤ) → lt_z z (pos 0) ≡ true → Some Direction.Port ≡ side_of z
to_port_lem (pos n) h = absurd (not-suc-le-zero (ltb-true n 0 h))
to_port_lem (negsuc n) h = refl

pub to_starboard_lem : (z : ℤ) → lt_z (pos 0) z ≡ true → Some Direction.Starboard ≡ side_of z
to_starboard_lem (pos zero) h = absurd (not-suc-le-zero (ltb-true 0 0 h))
to_starboard_lem (pos (suc n)) h = refl
to_starboard_lem (negsuc n) h = cc

pub to_neither : (z : ℤ) → lt_z z (pos 0) ≡ false → lt_z (pos 0) z ≡ false → None ≡ side_of z
to_neither (pos zero) h k = refl
to_neither (pos (suc n)) h k = absurd (not-suc-le-zero (ltb-false 0 (suc n) k))
to_neither (negsuc n) h k = cc
