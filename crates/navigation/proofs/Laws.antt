-- What is kept and what is lost between a raw number and its reading. Assumes nothing.
use Rattle.std.specs.Prelude.{Option, Some, None}
use mathlib.Core.Path.{◌≡◌, refl, sym, ◌∙◌}
use mathlib.Core.Bool.{Bool, true, false}
use Prim.Native.Nat.{ℕ}
use lib.Dec.{eqb}
use lib.IntN.{ℤ, pos}
use lib.Ieee.{Float, fin, binary32, round, of_int}
use borrow.Author.Tests.{eqb-true}
use Rattle.refusal.specs.Words.{pick}
use Rattle.navigation.specs.declared.ManeuverIndicator.{ManeuverIndicator}
use Rattle.navigation.specs.Navigation.{Coordinate, manoeuvre_of, manoeuvre_number}

-- the promise of a longitude or a latitude has one outcome
pub coordinate_unique : (absent raw : ℤ) (r s : Option Float) → Coordinate absent raw r → Coordinate absent raw s → r ≡ s
coordinate_unique absent raw r s p q = p.is ∙ sym q.is

-- a manoeuvre indicator keeps its number
pub manoeuvre-number : (raw : ℕ) → manoeuvre_number (manoeuvre_of raw) ≡ raw
manoeuvre-number raw = go (eqb raw 0) (eqb raw 1) (eqb raw 2) refl refl refl
  where
    go : (a b c : Bool) → eqb raw 0 ≡ a → eqb raw 1 ≡ b → eqb raw 2 ≡ c
        → manoeuvre_number (pick a None
        (pick b (Some ManeuverIndicator.NoSpecialManeuver) (pick c (Some ManeuverIndicator.SpecialManeuver) (Some (ManeuverIndicator.Unknown raw)))))
        ≡ raw
    go true b c h k l = sym (eqb-true raw 0 h)
    go false true c h k l = sym (eqb-true raw 1 k)
    go false false true h k l = sym (eqb-true raw 2 l)
    go false false false h k l = refl

-- "`data as f32` loses bits beyond 24 .. (16777217 gives 16777216)": each is 2 ^ 24 as a float
pub beyond_24_bits : of_int binary32 (pos 16777217) ≡ of_int binary32 (pos 16777216)
beyond_24_bits = odd ∙ sym even
  where
    odd : of_int binary32 (pos 16777217) ≡ fin false 1 (pos 24)
    odd = unfold of_int round in refl

    even : of_int binary32 (pos 16777216) ≡ fin false 1 (pos 24)
    even = unfold of_int round in refl
