-- A NaN alone differs from itself, and no reading that is handed out is one. Assumes nothing.
use Prim.Native.Nat.{ℕ, ◌*◌}
use mathlib.Core.Path.{◌≡◌, refl}
use mathlib.Core.Bool.{Bool, true, false, not}
use lib.Dec.{T}
use lib.Ieee.{Float, nan, inf, fin, binary32, up, down, ne, is_nan, to_bits}
use borrow.Author.Tests.{eq-eqb}
use Rattle.refusal.specs.Words.{pick}
use Rattle.navigation.specs.Navigation.{finite_in}
use Rattle.std.specs.Prelude.{Some}
use Rattle.navigation.proofs.Finite.{no_nan}
use Rattle.layout_position.specs.Position.{pattern_of}

pub unlike_itself : (x : Float) → ne x x ≡ is_nan x
unfolding ne is_nan
unlike_itself nan = refl
unlike_itself (inf true) = refl
unlike_itself (inf false) = refl
unlike_itself (fin true m e) = let a = m * up e * down e in rw (eq-eqb a a refl)
unlike_itself (fin false m e) = let a = m * up e * down e in rw (eq-eqb a a refl)

-- a finite reading, as every one of a decoded report is, stands as its own bit pattern
pub finite_pattern : (x : Float) → T (finite_in (Some x)) → pattern_of x ≡ to_bits binary32 x
finite_pattern x h = other (is_nan x) _ _ (no_nan x h)
  where
    other : (b : Bool) (s t : ℕ) → T (not b) → pick b s t ≡ t
    other false s t n = refl
    other true s t n = absurd n
