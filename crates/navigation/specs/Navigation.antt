-- What the numbers of a report mean (document 01, 'Fields and types'). Floats are IEEE 754's single precision, each operation rounded once.
use Rattle.std.specs.Prelude.{ℕ, zero, suc, ◌≡◌, Bool, true, false, ◌||◌, eqb, ℤ, pos, negsuc, neg_ℤ, Float, Option, None, Some}
use Rattle.std.specs.Float.{binary32}
use Rattle.std.specs.Float.Ieee.{round, of_int, div, mul}
use Rattle.std.specs.Float.Ieee.Scale.{finite}
use Rattle.refusal.specs.Words.{pick}
use Rattle.navigation.specs.declared.Accuracy.{Accuracy}
use Rattle.navigation.specs.declared.RateOfTurn.{RateOfTurn}
use Rattle.navigation.specs.declared.Direction.{Direction}
use Rattle.navigation.specs.declared.ManeuverIndicator.{ManeuverIndicator}

-- whether two integers are the same
abbrev pub eq_int : ℤ → ℤ → Bool
eq_int (pos a) (pos b) = eqb a b
eq_int (pos a) (negsuc b) = false
eq_int (negsuc a) (pos b) = false
eq_int (negsuc a) (negsuc b) = eqb a b

-- the fraction num / den, rounded once to single precision: what a decimal literal of an `f32` means
abbrev pub single : ℕ → ℕ → Float
single num den = round binary32 false num den

-- the value, unless there is none
abbrev pub unless : Bool → Float → Option Float
unless none x = pick none None (Some x)

-- a reading holds a number, neither a NaN nor an infinity, if it holds anything
abbrev pub finite_in : Option Float → Bool
finite_in None = true
finite_in (Some x) = finite x

-- ---- "Speed and course are absent or a single-precision value, raw / 10"
abbrev pub tenths_of : ℕ → Float
tenths_of raw = div binary32 (of_int binary32 (pos raw)) (single 10 1)

-- "Absent: .. speed 1023"
abbrev pub no_speed : ℕ → Bool
no_speed raw = eqb raw 1023

-- the speed over ground, in knots
abbrev pub speed_of : ℕ → Option Float
speed_of raw = unless (no_speed raw) (tenths_of raw)

-- "Absent: .. course 3600"
abbrev pub no_course : ℕ → Bool
no_course raw = eqb raw 3600

-- the course over ground, in degrees
abbrev pub course_of : ℕ → Option Float
course_of raw = unless (no_course raw) (tenths_of raw)

-- ---- "positions likewise, raw rounded to single precision, then divided by 600000"
abbrev pub degrees_of : ℤ → Float
degrees_of raw = div binary32 (of_int binary32 raw) (single 600000 1)

-- the position of a raw number, where `absent` is the number that stands for none
abbrev pub coordinate_of : ℤ → ℤ → Option Float
coordinate_of absent raw = unless (eq_int raw absent) (degrees_of raw)

-- "Absent: .. longitude 108600000, latitude 54600000"
abbrev pub longitude_absent : ℤ
longitude_absent = pos 108600000

abbrev pub latitude_absent : ℤ
latitude_absent = pos 54600000

-- the two positions, in degrees
abbrev pub longitude_of : ℤ → Option Float
longitude_of raw = coordinate_of longitude_absent raw

abbrev pub latitude_of : ℤ → Option Float
latitude_of raw = coordinate_of latitude_absent raw

-- what is promised of a position that is handed out, gathered in one record
pub record Coordinate (absent raw : ℤ) (r : Option Float) : Type 0 where
  pub is : r ≡ coordinate_of absent raw

-- ---- "Absent: .. heading 511"
abbrev pub heading_of : ℕ → Option ℕ
heading_of raw = pick (eqb raw 511) None (Some raw)

-- ---- "accuracy 1". The AIVDM description: 1 "indicates a DGPS-quality fix", 0 "an unaugmented GNSS fix"
abbrev pub accuracy_of : Bool → Accuracy
accuracy_of bit = pick bit Accuracy.Dgps Accuracy.Unaugmented

-- the bit as a number
abbrev pub accuracy_number : Accuracy → ℕ
accuracy_number Accuracy.Unaugmented = 0
accuracy_number Accuracy.Dgps = 1

-- ---- "Absent: .. turn -128"
abbrev pub no_turn : ℤ → Bool
no_turn raw = eq_int raw (neg_ℤ (pos 128))

-- the turn of a report
abbrev pub turn_of : ℤ → Option RateOfTurn
turn_of raw = pick (no_turn raw) None (Some (record { raw = raw }))

-- "Turn rate is (raw / 4.733) times itself, each operation rounded"
abbrev pub root_of : ℤ → Float
root_of raw = div binary32 (of_int binary32 raw) (single 4733 1000)

-- "absent at -127 and 127", and where there is no turn
abbrev pub no_rate : ℤ → Bool
no_rate raw = no_turn raw || eq_int raw (neg_ℤ (pos 127)) || eq_int raw (pos 127)

-- the rate of turn, in degrees a minute
abbrev pub rate_of : ℤ → Option Float
rate_of raw = unless (no_rate raw) (mul binary32 (root_of raw) (root_of raw))

-- "direction is port below 0, starboard above, none at 0"
abbrev pub side_of : ℤ → Option Direction
side_of (negsuc n) = Some Direction.Port
side_of (pos zero) = None
side_of (pos (suc n)) = Some Direction.Starboard

-- the direction of a turn, none where there is no turn
abbrev pub direction_of : ℤ → Option Direction
direction_of raw = pick (no_turn raw) None (side_of raw)

-- ---- "Absent: .. manoeuvre 0". The AIVDM description: 1 "No special maneuver", 2 "Special maneuver"
abbrev pub manoeuvre_of : ℕ → Option ManeuverIndicator
manoeuvre_of raw =
    pick (eqb raw 0) None
    (pick (eqb raw 1) (Some ManeuverIndicator.NoSpecialManeuver)
    (pick (eqb raw 2) (Some ManeuverIndicator.SpecialManeuver) (Some (ManeuverIndicator.Unknown raw))))

-- the number as sent
abbrev pub manoeuvre_number : Option ManeuverIndicator → ℕ
manoeuvre_number None = 0
manoeuvre_number (Some ManeuverIndicator.NoSpecialManeuver) = 1
manoeuvre_number (Some ManeuverIndicator.SpecialManeuver) = 2
manoeuvre_number (Some (ManeuverIndicator.Unknown raw)) = raw
