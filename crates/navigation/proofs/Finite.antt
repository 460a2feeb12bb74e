-- No reading that is handed out is a NaN or an infinity: not at any `i32`, any `u16` or any `i8`. Assumes nothing.
use Rattle.std.specs.Prelude.{Some}
use mathlib.Core.Path.{refl}
use Prim.Native.Nat.{ℕ, suc, ◌*◌, ◌^◌, ◌≤◌, ◌<◌}
use native.Mathlib.Nat.{le_of_lt, lt_of_le_of_lt, mul-le-mul}
use native.Mathlib.Omega.{arith}
use mathlib.Core.Bool.{Bool, true, false, not}
use lib.IntN.{ℤ, pos, negsuc}
use lib.Signed.{mag}
use lib.Dec.{T, lit<, lit≤}
use lib.Pow.{pow_pos}
use lib.Ieee.{Float, binary32, round, of_int, mul, div, is_nan}
use lib.Ieee.Exact.{HasValue}
use lib.Ieee.Scale.{finite}
use Rattle.navigation.specs.Navigation.{single, unless, eq_int, finite_in, tenths_of, no_speed, speed_of}
use Rattle.navigation.specs.Navigation.{no_course, course_of, degrees_of, coordinate_of, root_of, no_rate, rate_of}
use Rattle.navigation.proofs.Values.{exact, finite_no_nan}
use Rattle.navigation.proofs.Bounded.{U, Bounded, bounded_finite, rounded, quotient, product}

-- ---- tenths of a `u16`
ten_fold : (n : ℕ) → n < 2 ^ 16 → n * 1 < 2 ^ 16 * 10
ten_fold n h = omega arith

in_full : (n : ℕ) → n < 2 ^ 16 → n < 2 ^ 24
in_full n h = omega arith

tenths_finite : (raw : ℕ) → raw < 2 ^ 16 → T (finite (tenths_of raw))
unfolding of_int
tenths_finite raw h =
    bounded_finite (quotient (round binary32 false raw 1) (single 10 1) false raw 1 10 1 16 (lit< tt) (lit< tt) (exact false raw (in_full raw h))
    (exact false 10 (lit< tt)) (ten_fold raw h) (lit≤ tt))

-- ---- degrees of an `i32`
over_i32 : (r : ℕ) → r ≤ 2 ^ 31 → r < 2 ^ 32 * 1
over_i32 r h = omega arith

signed : (s : Bool) (r : ℕ) → r ≤ 2 ^ 31 → T (finite (div binary32 (round binary32 s r 1) (single 600000 1)))
signed s r h =
    let x : Bounded (round binary32 s r 1) s 32 = rounded r 1 32 (lit< tt) (over_i32 r h) s (lit≤ tt) in
    bounded_finite (quotient (round binary32 s r 1) (single 600000 1) s x.size U 600000 1 33 (pow_pos 149) (lit< tt) x.has (exact false 600000 (lit< tt))
    (lt_of_le_of_lt (mul-le-mul x.small (lit≤ {m = 1} {n = 1} tt)) (lit< tt)) (lit≤ tt))

degrees_finite : (raw : ℤ) → mag raw < 2 ^ 31 → T (finite (degrees_of raw))
unfolding of_int
degrees_finite (pos n) h = signed false n (le_of_lt h)
degrees_finite (negsuc k) h = signed true (suc k) h

-- ---- the square of an `i8` in units of 4.733
-- which is 2481455 / 2 ^ 19 in single precision
unit_is : HasValue (single 4733 1000) false 2481455 (2 ^ 19)
unfolding round
unit_is = (refl, refl)

few : (n : ℕ) → n ≤ 2 ^ 7 → n * 2 ^ 19 < 2 ^ 8 * (1 * 2481455)
few n h = omega arith

byte_full : (n : ℕ) → n ≤ 2 ^ 7 → n < 2 ^ 24
byte_full n h = omega arith

squared : (s : Bool) (n : ℕ) → n ≤ 2 ^ 7
    → T (finite (mul binary32 (div binary32 (round binary32 s n 1) (single 4733 1000)) (div binary32 (round binary32 s n 1) (single 4733 1000))))
squared s n h =
    let root = div binary32 (round binary32 s n 1) (single 4733 1000) in
    let x : Bounded root s 8 =
    quotient (round binary32 s n 1) (single 4733 1000) s n 1 2481455 (2 ^ 19) 8 (lit< tt) (lit< tt) (exact s n (byte_full n h)) unit_is (few n h) (lit≤ tt) in
    bounded_finite (product root root s s x.size U x.size U 17 (pow_pos 149) (pow_pos 149) x.has x.has
    (lt_of_le_of_lt (mul-le-mul x.small x.small) (lit< tt)) (lit≤ tt))

square_finite : (raw : ℤ) → mag raw < 2 ^ 7 → T (finite (mul binary32 (root_of raw) (root_of raw)))
unfolding of_int
square_finite (pos n) h = squared false n (le_of_lt h)
square_finite (negsuc k) h = squared true (suc k) h

-- ---- the readings
holds : (none : Bool) (x : Float) → T (finite x) → T (finite_in (unless none x))
holds true x h = tt
holds false x h = h

pub speed_finite : (raw : ℕ) → raw < 2 ^ 16 → T (finite_in (speed_of raw))
speed_finite raw h = holds (no_speed raw) (tenths_of raw) (tenths_finite raw h)

pub course_finite : (raw : ℕ) → raw < 2 ^ 16 → T (finite_in (course_of raw))
course_finite raw h = holds (no_course raw) (tenths_of raw) (tenths_finite raw h)

pub position_finite : (absent raw : ℤ) → mag raw < 2 ^ 31 → T (finite_in (coordinate_of absent raw))
position_finite absent raw h = holds (eq_int raw absent) (degrees_of raw) (degrees_finite raw h)

pub rate_finite : (raw : ℤ) → mag raw < 2 ^ 7 → T (finite_in (rate_of raw))
rate_finite raw h = holds (no_rate raw) (mul binary32 (root_of raw) (root_of raw)) (square_finite raw h)

-- so the bits of a value can be read
pub no_nan : (x : Float) → T (finite_in (Some x)) → T (not (is_nan x))
no_nan x h = finite_no_nan x h
