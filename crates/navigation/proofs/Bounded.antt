-- What is below 2 ^ k stays a number when it is rounded to single precision, and a quotient and a product of such numbers are numbers, too. Assumes nothing.
use mathlib.Core.Path.{sym, ap, ◌∙◌, subst}
use Prim.Native.Nat.{ℕ, ◌+◌, ◌-◌, ◌*◌, ◌/◌, ◌%◌, ◌^◌, ◌≤◌, ◌<◌, compare}
use native.Mathlib.Nat.{le_trans, le_of_eq, lt_of_le_of_lt, lt_of_lt_of_le, mul_right_comm}
use native.Mathlib.Nat.{mul-pos, mul-le-mul, mul-lt-mul_of_pos_right, div-lt_iff_lt-mul, div-div-eq-div-mul}
use native.Mathlib.Omega.{arith}
use mathlib.Core.Bool.{Bool, false}
use lib.Dec.{T, lit<}
use lib.Pow.{pow-add, pow_pos, pow_mono}
use lib.Ieee.{Float, binary32, unlike, size, round, mul, div}
use lib.Ieee.Digits.{size-le}
use lib.Ieee.Fits.{nearest-le, kept-lt, round_is}
use lib.Ieee.Exact.{HasValue, units_val}
use lib.Ieee.Order.{drop, kept}
use lib.Ieee.Scale.{grid, finite}
use Rattle.navigation.proofs.Values.{unlike_false, mul_at, div_at, finite_of}

-- the format's smallest value is 1 / U
abbrev pub U : ℕ
U = 2 ^ 149

-- x is a number with the sign s, and is at most 2 ^ k in size
pub record Bounded (x : Float) (s : Bool) (k : ℕ) : Type 0 where
  pub size : ℕ
  pub has : HasValue x s size U
  pub small : size ≤ 2 ^ (k + 149)

pub bounded_finite : {x : Float} {s : Bool} {k : ℕ} → Bounded x s k → T (finite x)
bounded_finite {x} {s} b = finite_of x s b.size U b.has

-- the 24 leading digits that are kept, rounded up at most
kept-le : (n c : ℕ) → kept 24 n c ≤ 2 ^ 24
kept-le n c =
    let k = drop 24 n c in
    let u = c * 2 ^ k in
    le_trans (nearest-le (n / u) (compare (n % u * 2) u)) (subst (λ (x : ℕ). x < 2 ^ 24) (div-div-eq-div-mul n c (2 ^ k)) (kept-lt 24 (n / c)))

module _ (a c k : ℕ) (C : 0 < c) (h : a < 2 ^ k * c) where
  dropped : drop 24 (a * U) c ≤ k + 125
  dropped =
      fewer (size (a * U / c))
      (size-le (a * U / c) (k + 149)
      ((div-lt_iff_lt-mul C).1 (lt_of_lt_of_le (mul-lt-mul_of_pos_right h (pow_pos 149))
      (le_of_eq (mul_right_comm (2 ^ k) c U ∙ ap (λ (x : ℕ). x * c) (sym (pow-add 2 k 149)))))))
    where
      fewer : (z : ℕ) → z ≤ k + 149 → z - 24 ≤ k + 125
      fewer z l = omega arith

  grid_le : grid binary32 a c ≤ 2 ^ (k + 149)
  grid_le = le_trans (mul-le-mul (kept-le (a * U) c) (pow_mono dropped)) (le_trans (le_of_eq (sym (pow-add 2 24 (k + 125)))) (pow_mono (omega arith)))

  pub rounded : (s : Bool) → k ≤ 127 → Bounded (round binary32 s a c) s k
  rounded s l =
      let q = kept 24 (a * U) c in
      let d = drop 24 (a * U) c in
      let under : grid binary32 a c < 2 ^ 277 =
      lt_of_le_of_lt (le_trans grid_le (pow_mono {i = k + 149} {j = 276} (omega arith))) (lit< {m = 2 ^ 276} {n = 2 ^ 277} tt) in
      record {
        size = grid binary32 a c;
        has = subst (λ (x : Float). HasValue x s (grid binary32 a c) U) (sym (round_is binary32 s a c))
            (units_val binary32 s q d under);
        small = grid_le;
      }

-- the divisor is b / d, which is not 0
pub quotient : (x y : Float) (s : Bool) (a c b d k : ℕ) → 0 < c → 0 < b → HasValue x s a c → HasValue y false b d
    → a * d < 2 ^ k * (c * b) → k ≤ 127 → Bounded (div binary32 x y) s k
quotient x y s a c b d k C B h i l m =
    subst (λ (z : Float). Bounded z s k) (sym (div_at x y s false a c b d C B h i ∙ ap (λ (t : Bool). round binary32 t (a * d) (c * b)) (unlike_false s)))
    (rounded (a * d) (c * b) k (mul-pos C B) l s m)

pub product : (x y : Float) (s t : Bool) (a c b d k : ℕ) → 0 < c → 0 < d → HasValue x s a c → HasValue y t b d
    → a * b < 2 ^ k * (c * d) → k ≤ 127 → Bounded (mul binary32 x y) (unlike s t) k
product x y s t a c b d k C D h i l m =
    subst (λ (z : Float). Bounded z (unlike s t) k) (sym (mul_at x y s t a c b d C D h i))
    (rounded (a * b) (c * d) k (mul-pos C D) l (unlike s t) m)
