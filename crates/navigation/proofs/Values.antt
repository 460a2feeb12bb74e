-- A product and a quotient of two floats, by any fractions that they equal, and a whole number below 2 ^ 24, which is a float exactly. Assumes nothing.
use mathlib.Core.Path.{◌≡◌, refl, sym, ap, ap₂, ◌∙◌, subst}
use Prim.Native.Nat.{ℕ, zero, suc, ◌*◌, ◌^◌, ◌<◌}
use native.Mathlib.Nat.{lt_of_lt_of_le, lt_irrefl, zero-lt-suc, zero-mul, mul-one, mul_comm, mul_assoc, mul-mul-mul_comm, mul-pos, mul-lt-mul_of_pos_right}
use mathlib.Core.Bool.{Bool, true, false, cond, not}
use lib.Dec.{T, eqb, eqb-suc-zero, lit<, lit≤}
use lib.Pow.{pow_pos}
use lib.Ieee.{Float, nan, inf, fin, binary32, unlike, up, down, round, mul, div, is_nan}
use lib.Ieee.Fits.{up_pos, down_pos}
use lib.Ieee.Exact.{HasValue, round_exact}
use lib.Ieee.Scale.{round_same, finite}

pub unlike_false : (s : Bool) → unlike s false ≡ s
unlike_false true = refl
unlike_false false = refl

-- every whole number below 2 ^ 24 is a float exactly, and so is it times 2 ^ 12
pub exact : (s : Bool) (n : ℕ) → n < 2 ^ 24 → HasValue (round binary32 s n 1) s n 1
exact s n h =
    round_exact binary32 s n 1 n 149 (lit< tt) h
    (lt_of_lt_of_le (mul-lt-mul_of_pos_right h (pow_pos 149)) (lit≤ tt))
    (sym (mul-one (n * 2 ^ 149)))

pub shifted : (s : Bool) (n : ℕ) → n < 2 ^ 24 → HasValue (round binary32 s (n * 4096) 1) s (n * 4096) 1
shifted s n h =
    round_exact binary32 s (n * 4096) 1 n 161 (lit< tt) h
    (lt_of_lt_of_le (mul-lt-mul_of_pos_right h (pow_pos 161)) (lit≤ tt))
    (mul_assoc n 4096 (2 ^ 149) ∙ sym (mul-one (n * 2 ^ 161)))

-- ---- the operations
pub mul_at : (x y : Float) (s t : Bool) (a c b d : ℕ) → 0 < c → 0 < d → HasValue x s a c → HasValue y t b d
    → mul binary32 x y ≡ round binary32 (unlike s t) (a * b) (c * d)
unfolding mul
mul_at nan y s t a c b d C D h k = absurd h
mul_at (inf u) y s t a c b d C D h k = absurd h
mul_at (fin u m e) nan s t a c b d C D h k = absurd k
mul_at (fin u m e) (inf v) s t a c b d C D h k = absurd k
mul_at (fin u m e) (fin v n f) s t a c b d C D h k =
    ap₂ (λ (i j : Bool). round binary32 (unlike i j) (m * up e * (n * up f)) (down e * down f)) h.0 k.0
    ∙ round_same binary32 (unlike s t) (m * up e * (n * up f)) (down e * down f) (a * b) (c * d) (mul-pos (down_pos e) (down_pos f)) (mul-pos C D)
    (mul-mul-mul_comm (m * up e) (n * up f) c d ∙ ap₂ (λ (i j : ℕ). i * j) h.1 k.1 ∙ mul-mul-mul_comm a (down e) b (down f))

cross : (x df c b a de y d : ℕ) → x * c ≡ a * de → y * d ≡ b * df → x * df * (c * b) ≡ a * d * (y * de)
cross x df c b a de y d h k =
    mul-mul-mul_comm x df c b
    ∙ ap₂ (λ (i j : ℕ). i * j) h (mul_comm df b ∙ sym k ∙ mul_comm y d)
    ∙ mul-mul-mul_comm a de d y
    ∙ ap (λ (i : ℕ). a * d * i) (mul_comm de y)

-- the divisor is not 0
pub div_at : (x y : Float) (s t : Bool) (a c b d : ℕ) → 0 < c → 0 < b → HasValue x s a c → HasValue y t b d
    → div binary32 x y ≡ round binary32 (unlike s t) (a * d) (c * b)
unfolding div
div_at nan y s t a c b d C B h k = absurd h
div_at (inf u) y s t a c b d C B h k = absurd h
div_at (fin u m e) nan s t a c b d C B h k = absurd k
div_at (fin u m e) (inf v) s t a c b d C B h k = absurd k
div_at (fin u m e) (fin v zero f) s t a c b d C B h k =
    absurd (lt_irrefl 0 (subst (λ (i : ℕ). 0 < i) (sym k.1 ∙ ap (λ (i : ℕ). i * d) (zero-mul (up f)) ∙ zero-mul d) (mul-pos B (down_pos f))))
div_at (fin u m e) (fin v (suc n) f) s t a c b d C B h k =
    ap (λ (i : Bool). cond i (cond (eqb m 0) nan (inf (unlike u v))) (round binary32 (unlike u v) (m * up e * down f) (suc n * up f * down e))) (eqb-suc-zero n)
    ∙ ap₂ (λ (i j : Bool). round binary32 (unlike i j) (m * up e * down f) (suc n * up f * down e)) h.0 k.0
    ∙ round_same binary32 (unlike s t) (m * up e * down f) (suc n * up f * down e) (a * d) (c * b) (mul-pos (mul-pos (zero-lt-suc n) (up_pos f)) (down_pos e))
    (mul-pos C B)
    (cross (m * up e) (down f) c b a (down e) (suc n * up f) d h.1 k.1)

-- ---- what has a value is no NaN and no infinity
pub finite_of : (x : Float) (s : Bool) (a c : ℕ) → HasValue x s a c → T (finite x)
finite_of nan s a c h = absurd h
finite_of (inf t) s a c h = absurd h
finite_of (fin t m e) s a c h = tt

pub finite_no_nan : (x : Float) → T (finite x) → T (not (is_nan x))
unfolding is_nan
finite_no_nan nan h = absurd h
finite_no_nan (inf t) h = tt
finite_no_nan (fin t m e) h = tt
