-- `signed_of`: one proof over the width, up to 32 bits. Half of 2 ^ width parts the two signs. Assumes nothing.
use mathlib.Core.Path.{◌≡◌, refl, ap, ◌∙◌}
use Prim.Native.Nat.{ℕ, zero, suc, ◌-◌, ◌*◌, ◌%◌, ◌^◌, ◌≤◌, ◌<◌}
use native.Mathlib.Omega.{arith}
use native.Mathlib.Nat.{zero-add}
use borrow.Author.Tests.{lt-ltb, le-ltb}
use lib.Pow.{pow_mono}
use lib.IntN.{ℤ, pos, negsuc, ◌-ℤ◌}
use mir.Syntax.{w32}
use mir.Val.{to_z}
use mir.Facts.{to_z-of_z}
use Rattle.parsers.specs.Field.{twos}
use Rattle.parsers.proofs.Fields.{one_shl}
use Rattle.parsers.proofs.signed_of.Goals as goal

-- what holds of 2 ^ width, and of the code's `1 << width`
power : (w : ℕ) → w ≤ 32 → (1 * 2 ^ w % 2 ^ 64 ≡ 2 ^ w) × (2 ^ w ≤ 2 ^ 32)
power w h = (one_shl w 64 (omega arith), pow_mono h)

-- -1 - n
below_zero : (n : ℕ) → negsuc 0 -ℤ pos n ≡ negsuc n
below_zero zero = refl
below_zero (suc n) = ap (λ (k : ℕ). negsuc (suc k)) (zero-add n)

signed : (n : ℕ) → n < 2 ^ 31 → negsuc 0 -ℤ to_z w32 n ≡ negsuc n
signed n h = ap (λ (z : ℤ). negsuc 0 -ℤ z) (to_z-of_z {w = w32} {z = pos n} (record { sfits = h })) ∙ below_zero n

pub overflow_mul-v : goal.overflow_mul-v
overflow_mul-v c = let p = power c.args.width c.requires.0 in omega arith

pub overflow_cast-result : goal.overflow_cast-result
overflow_cast-result c = let p = power c.args.width c.requires.0 in record { sfits = omega arith }

pub overflow_sub-below : goal.overflow_sub-below
overflow_sub-below c = let p = power c.args.width c.requires.0 in omega arith

pub overflow_sub-below-else-v-all : goal.overflow_sub-below-else-v-all
overflow_sub-below-else-v-all c = let p = power c.args.width c.requires.0 in omega arith

pub overflow_cast-below : goal.overflow_cast-below
overflow_cast-below c = let p = power c.args.width c.requires.0 in record { sfits = omega arith }

pub overflow_sub-result : goal.overflow_sub-result
overflow_sub-result c =
    let p = power c.args.width c.requires.0 in
    let n = 1 * 2 ^ c.args.width % 2 ^ 64 - 1 - c.args.v in
    let small : n < 2 ^ 31 = omega arith in
    rw (signed n small) (record { sfits = small })

pub returns-then-v-all : goal.returns-then-v-all
unfolding twos
returns-then-v-all c =
    let p = power c.args.width c.requires.0 in
    rw (lt-ltb (c.args.v * 2) (2 ^ c.args.width) (omega arith))
    (to_z-of_z {w = w32} {z = pos c.args.v} (record { sfits = omega arith }))

pub returns-else-v-all : goal.returns-else-v-all
unfolding twos
returns-else-v-all c =
    let p = power c.args.width c.requires.0 in
    let n = 1 * 2 ^ c.args.width % 2 ^ 64 - 1 - c.args.v in
    let small : n < 2 ^ 31 = omega arith in
    let is : n ≡ 2 ^ c.args.width - 1 - c.args.v = omega arith in
    rw (le-ltb (c.args.v * 2) (2 ^ c.args.width) (omega arith), signed n small, ← is)
    (to_z-of_z {w = w32} {z = negsuc n} (record { sfits = small }))
