-- The sum of an integer's high part times 4096 and its low part, each a float exactly, is the integer rounded once. Assumes nothing.
use mathlib.Core.Path.{◌≡◌, refl, sym, ap, ◌∙◌, subst}
use Prim.Native.Nat.{ℕ, zero, suc, ◌+◌, ◌*◌, ◌/◌, ◌%◌, ◌^◌, ◌≤◌, ◌<◌, zero-le}
use native.Mathlib.Nat.{zero-lt-suc, lt_irrefl, le_of_suc-le-suc, div-le_self, sub-zero, le_of_lt, zero-add, add-zero}
use native.Mathlib.Nat.{zero-mul, mul-one, mul_assoc, mul_right_comm, mul-pos, add-mul, div-add-mod'}
use native.Mathlib.Omega.{arith}
use mathlib.Core.Bool.{Bool, true, false}
use lib.IntN.{ℤ, pos, negsuc, neg_ℤ}
use lib.Signed.{mag, mag_rem, quot_z, rem_z}
use lib.Dec.{T, lt→ltb, le→leb, lit<}
use lib.Ieee.{Float, nan, inf, fin, binary32, up, down, round, sum, add, mul, of_int, in_float}
use lib.Ieee.Exact.{HasValue}
use lib.Ieee.Scale.{round_same}
use lib.Ieee.Positive.{den, den_pos}
use borrow.Author.Tests.{lt-ltb, le-ltb}
use mir.Syntax.{w32}
use mir.Val.{SFits, of_z, to_z}
use mir.Facts.{to_z-of_z}
use mir.ValLaws.{sfits_le}
use Rattle.navigation.specs.Navigation.{single}
use Rattle.navigation.proofs.Values.{unlike_false, exact, shifted, mul_at}

-- ---- a float that is the whole number n, with a sign
abbrev Whole : Float → Bool → ℕ → Type 0
Whole x s n = HasValue x s n 1

-- ---- a product with 4096
times : (x : Float) (s : Bool) (n : ℕ) → Whole x s n → mul binary32 x (single 4096 1) ≡ round binary32 s (n * 4096) 1
times x s n h =
    mul_at x (single 4096 1) s false n 1 4096 1 (lit< tt) (lit< tt) h (exact false 4096 (lit< tt))
    ∙ ap (λ (b : Bool). round binary32 b (n * 4096) 1) (unlike_false s)

-- ---- a sum of two whole numbers, as one of fractions with the same denominator
common : (x y : Float) → ℕ
common x y = den x * den y

common_pos : (x y : Float) → 0 < common x y
unfolding common
common_pos x y = mul-pos (den_pos x) (den_pos y)

to_sum : (x y : Float) (s t : Bool) (a b : ℕ) → Whole x s a → Whole y t b → add binary32 x y ≡ sum binary32 s (a * common x y) t (b * common x y) (common x y)
unfolding add common
to_sum nan y s t a b h k = absurd h
to_sum (inf u) y s t a b h k = absurd h
to_sum (fin u m e) nan s t a b h k = absurd k
to_sum (fin u m e) (inf v) s t a b h k = absurd k
to_sum (fin u m e) (fin v n d) s t a b h k =
    let left : m * up e * down d ≡ a * (down e * down d) = ap (λ (i : ℕ). i * down d) (sym (mul-one (m * up e)) ∙ h.1) ∙ mul_assoc a (down e) (down d) in
    let right : n * up d * down e ≡ b * (down e * down d) =
    ap (λ (i : ℕ). i * down e) (sym (mul-one (n * up d)) ∙ k.1) ∙ mul_right_comm b (down d) (down e) ∙ mul_assoc b (down e) (down d) in
    cc (left, right, h.0, k.0)

-- one sign
alike : (s : Bool) (a b c : ℕ) → sum binary32 s a s b c ≡ round binary32 s (a + b) c
unfolding sum
alike true a b c = refl
alike false a b c = refl

-- nothing is added to what is there
none_left : (s t : Bool) (b c : ℕ) → 0 < b → sum binary32 s 0 t b c ≡ round binary32 t b c
unfolding sum
none_left true true b c h = ap (λ (i : ℕ). round binary32 true i c) (zero-add b)
none_left false false b c h = ap (λ (i : ℕ). round binary32 false i c) (zero-add b)
none_left true false b c h = simp (lt-ltb 0 b h, sub-zero)
none_left false true b c h = simp (lt-ltb 0 b h, sub-zero)

none_right : (s t : Bool) (a c : ℕ) → 0 < a → sum binary32 s a t 0 c ≡ round binary32 s a c
unfolding sum
none_right true true a c h = ap (λ (i : ℕ). round binary32 true i c) (add-zero a)
none_right false false a c h = ap (λ (i : ℕ). round binary32 false i c) (add-zero a)
none_right true false a c h = simp (lt-ltb 0 a h, le-ltb a 0 zero-le, sub-zero)
none_right false true a c h = simp (le-ltb a 0 zero-le, sub-zero)

-- the denominator goes
cancelled : (s : Bool) (a c : ℕ) → 0 < c → round binary32 s (a * c) c ≡ round binary32 s a 1
cancelled s a c C = round_same binary32 s (a * c) c a 1 C (lit< tt) (mul-one (a * c))

both : (x y : Float) (s : Bool) (a b : ℕ) → Whole x s a → Whole y s b → add binary32 x y ≡ round binary32 s (a + b) 1
both x y s a b h k =
    let c = common x y in
    to_sum x y s s a b h k
    ∙ alike s (a * c) (b * c) c
    ∙ ap (λ (i : ℕ). round binary32 s i c) (sym (add-mul a b c))
    ∙ cancelled s (a + b) c (common_pos x y)

only_left : (x y : Float) (s t : Bool) (a : ℕ) → 0 < a → Whole x s a → Whole y t 0 → add binary32 x y ≡ round binary32 s a 1
only_left x y s t a A h k =
    let c = common x y in
    to_sum x y s t a 0 h k
    ∙ ap (λ (i : ℕ). sum binary32 s (a * c) t i c) (zero-mul c)
    ∙ none_right s t (a * c) c (mul-pos A (common_pos x y))
    ∙ cancelled s a c (common_pos x y)

only_right : (x y : Float) (s t : Bool) (b : ℕ) → 0 < b → Whole x s 0 → Whole y t b → add binary32 x y ≡ round binary32 t b 1
only_right x y s t b B h k =
    let c = common x y in
    to_sum x y s t 0 b h k
    ∙ ap (λ (i : ℕ). sum binary32 s i t (b * c) c) (zero-mul c)
    ∙ none_left s t (b * c) c (mul-pos B (common_pos x y))
    ∙ cancelled t b c (common_pos x y)

-- ---- the two parts
-- a cast to `f32`, where it is exact
abbrev F : ℤ → Float
F z = of_int binary32 z

abbrev joined : ℤ → ℤ → Float
joined h l = add binary32 (mul binary32 (F h) (single 4096 1)) (F l)

high : (s : Bool) (q : ℕ) → q < 2 ^ 24 → Whole (mul binary32 (round binary32 s q 1) (single 4096 1)) s (q * 4096)
high s q h = subst (λ (x : Float). Whole x s (q * 4096)) (sym (times (round binary32 s q 1) s q (exact s q h))) (shifted s q h)

-- -(q * 4096 + r), which is not 0. Where a part is 0 it is +0
below-zero : (q r : ℕ) → q < 2 ^ 24 → r < 2 ^ 24 → 0 < q * 4096 + r → joined (neg_ℤ (pos q)) (neg_ℤ (pos r)) ≡ round binary32 true (q * 4096 + r) 1
unfolding of_int
below-zero zero zero hq hr h = absurd (lt_irrefl 0 h)
below-zero zero (suc r) hq hr h =
    only_right (mul binary32 (round binary32 false 0 1) (single 4096 1)) (round binary32 true (suc r) 1) false true (suc r) (zero-lt-suc r) (high false 0 hq)
    (exact true (suc r) hr)
    ∙ ap (λ (i : ℕ). round binary32 true i 1) (sym (zero-add (suc r)))
below-zero (suc q) zero hq hr h =
    only_left (mul binary32 (round binary32 true (suc q) 1) (single 4096 1)) (round binary32 false 0 1) true false (suc q * 4096)
    (mul-pos (zero-lt-suc q) (lit< tt)) (high true (suc q) hq) (exact false 0 hr)
    ∙ ap (λ (i : ℕ). round binary32 true i 1) (sym (add-zero (suc q * 4096)))
below-zero (suc q) (suc r) hq hr h =
    both (mul binary32 (round binary32 true (suc q) 1) (single 4096 1)) (round binary32 true (suc r) 1) true (suc q * 4096) (suc r) (high true (suc q) hq)
    (exact true (suc r) hr)

small_high : (n : ℕ) → n ≤ 2 ^ 31 → n / 4096 < 2 ^ 24
small_high n h = omega arith

small_low : (n : ℕ) → n % 4096 < 2 ^ 24
small_low n = omega arith

again : (n : ℕ) → n / 4096 * 4096 + n % 4096 ≡ n
again n = div-add-mod' n 4096

pub parts : (z : ℤ) → mag z < 2 ^ 31 → joined (quot_z z (pos 4096)) (rem_z z (pos 4096)) ≡ F z
unfolding of_int
parts (pos n) h =
    both (mul binary32 (round binary32 false (n / 4096) 1) (single 4096 1)) (round binary32 false (n % 4096) 1) false (n / 4096 * 4096) (n % 4096)
    (high false (n / 4096) (small_high n (le_of_lt h))) (exact false (n % 4096) (small_low n))
    ∙ ap (λ (i : ℕ). round binary32 false i 1) (again n)
parts (negsuc k) h =
    below-zero (suc k / 4096) (suc k % 4096) (small_high (suc k) h) (small_low (suc k)) (subst (λ (i : ℕ). 0 < i) (sym (again (suc k))) (zero-lt-suc k))
    ∙ ap (λ (i : ℕ). round binary32 true i 1) (again (suc k))

-- ---- what the function's proof asks of an `i32`, which the machine reads back from its bits
less : (q k : ℕ) → q ≤ suc k → mag (neg_ℤ (pos q)) ≤ k
less zero k h = zero-le
less (suc q) k h = le_of_suc-le-suc h

pub quot_fits : {z : ℤ} → SFits w32 z → SFits w32 (quot_z z (pos 4096))
quot_fits {z = pos n} f = sfits_le (div-le_self n 4096) f
quot_fits {z = negsuc k} f = sfits_le (less (suc k / 4096) k (div-le_self (suc k) 4096)) f

rem-fits : {z : ℤ} → SFits w32 z → SFits w32 (rem_z z (pos 4096))
rem-fits {z} f = sfits_le (mag_rem z (pos 4096)) f

pub high_read : {z : ℤ} → SFits w32 z → to_z w32 (of_z w32 (quot_z (to_z w32 (of_z w32 z)) (pos 4096))) ≡ quot_z z (pos 4096)
high_read f = ap (λ (y : ℤ). to_z w32 (of_z w32 (quot_z y (pos 4096)))) (to_z-of_z f) ∙ to_z-of_z (quot_fits f)

pub low_read : {z : ℤ} → SFits w32 z → to_z w32 (of_z w32 (rem_z (to_z w32 (of_z w32 z)) (pos 4096))) ≡ rem_z z (pos 4096)
low_read f = ap (λ (y : ℤ). to_z w32 (of_z w32 (rem_z y (pos 4096)))) (to_z-of_z f) ∙ to_z-of_z (rem-fits f)

-- a magnitude below 2 ^ 24 is a float exactly, with either sign
minus_in : (q : ℕ) → q < 2 ^ 24 → T (in_float binary32 (neg_ℤ (pos q)))
unfolding in_float
minus_in zero h = tt
minus_in (suc q) h = lt→ltb q (2 ^ 24) (le_of_lt h)

plus_in : (q : ℕ) → q < 2 ^ 24 → T (in_float binary32 (pos q))
unfolding in_float
plus_in q h = le→leb q (2 ^ 24) (le_of_lt h)

pub high_in : (z : ℤ) → mag z < 2 ^ 31 → T (in_float binary32 (quot_z z (pos 4096)))
high_in (pos n) h = plus_in (n / 4096) (small_high n (le_of_lt h))
high_in (negsuc k) h = minus_in (suc k / 4096) (small_high (suc k) h)

pub low_in : (z : ℤ) → T (in_float binary32 (rem_z z (pos 4096)))
low_in (pos n) = plus_in (n % 4096) (small_low n)
low_in (negsuc k) = minus_in (suc k % 4096) (small_low (suc k))
