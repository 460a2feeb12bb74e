-- WHAT IS WRITTEN READS BACK: from 1/32 up, the nine digits of a rate lie within a quarter of the step from its number to the next one, and half a step below a
-- power of two, so that no other single-precision number is as near to them; and 0 is written as 0. Assumes nothing.
use Prim.Native.Nat.{ℕ, ◌+◌, ◌*◌, ◌/◌, ◌%◌, ◌^◌, ◌≤◌, ◌<◌}
use native.Mathlib.Omega.{arith}
use native.Mathlib.Numerals.{add-one}
use native.Mathlib.Nat.{mul_assoc, mod-lt, div-add-mod', pow-suc}
use mathlib.Core.Path.{◌≡◌, refl, sym, ap, ◌∙◌}
use mathlib.Core.Bool.{Bool, ◌&&◌, ◌||◌}
use lib.Dec.{T, eqb, leb, ltb}
use lib.IntN.{ℤ, pos, negsuc}
use lib.Ieee.{binary32, mul, div, of_int, round, units, odd, size, climb, span, is_nan, to_bits}
use lib.Pow.{pow_mono, pow_pos}
use Rattle.navigation.specs.Navigation.{root_of}
use Rattle.layout_position.specs.Position.{pattern_of}
use Rattle.face_values.specs.Rate.{patterns, significand_of, shift_of, billionths_of}
use Rattle.face_rows.proofs.Chosen.{up_to, at_most}

-- a whole count n is near to x / 2 ^ s, where a step is 10 ^ 9 / 2 ^ s: both are multiplied by 2 ^ s, and a quarter of a step by 4
pub record Near (n x s : ℕ) : Type 0 where
  pub below : 4 * (n * 2 ^ s) < 4 * x + 10 ^ 9
  pub above : 4 * x < 4 * (n * 2 ^ s) + 10 ^ 9

nearest : (x s : ℕ) → s ≤ 28 → Near ((x * 2 + 2 ^ s) / 2 ^ (s + 1)) x s
nearest x s h =
    let p = 2 ^ s in
    let y = x * 2 + p in
    let n = y / 2 ^ (s + 1) in
    let rest = y % 2 ^ (s + 1) in
    let z : 2 ^ (s + 1) ≡ p * 2 = ap (λ (k : ℕ). 2 ^ k) (add-one s) ∙ pow-suc 2 s in
    let small : p ≤ 2 ^ 28 = pow_mono h in
    let low : rest < 2 ^ (s + 1) = mod-lt y (pow_pos (s + 1)) in
    let all : n * 2 ^ (s + 1) + rest ≡ y = div-add-mod' y (2 ^ (s + 1)) in
    let w : n * 2 ^ (s + 1) ≡ n * p * 2 = ap (λ (k : ℕ). n * k) z ∙ sym (mul_assoc n p 2) in
    record { below = omega arith; above = omega arith }

pub reads_back : (p : ℕ) → shift_of p ≤ 28 → Near (billionths_of p) (significand_of p * 10 ^ 9) (shift_of p)
unfolding billionths_of
reads_back p h =
    let x = significand_of p * 10 ^ 9 in
    let z : significand_of p * (2 * 10 ^ 9) ≡ x * 2 = omega arith in
    rw z (nearest x (shift_of p) h)

pub zero_reads : billionths_of 0 ≡ 0
unfolding billionths_of
zero_reads = refl

-- ---- the rates of turn
-- 0, or a number from 1/32 up and below 2 ^ 24
abbrev pub readable : ℕ → Bool
readable p = eqb p 0 || (ltb p patterns && leb (shift_of p) 28)

-- (raw / 4.733) times itself, as its bit pattern
abbrev pub rate_pattern : ℤ → ℕ
rate_pattern raw = pattern_of (mul binary32 (root_of raw) (root_of raw))

rights : T (up_to 126 (λ (k : ℕ). readable (rate_pattern (pos k))))
unfolding mul div of_int round units odd size climb span is_nan to_bits
rights = tt

lefts : T (up_to 125 (λ (k : ℕ). readable (rate_pattern (negsuc k))))
unfolding mul div of_int round units odd size climb span is_nan to_bits
lefts = tt

-- every turn to starboard and to port that has a rate, by computing it
pub right_readable : (k : ℕ) → k ≤ 126 → T (readable (rate_pattern (pos k)))
right_readable k h = at_most 126 (λ (n : ℕ). readable (rate_pattern (pos n))) rights k h

pub left-readable : (k : ℕ) → k ≤ 125 → T (readable (rate_pattern (negsuc k)))
left-readable k h = at_most 125 (λ (n : ℕ). readable (rate_pattern (negsuc n))) lefts k h
