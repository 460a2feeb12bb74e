-- The laws of a number's bytes, over their count. Assumes nothing.
use Rattle.std.specs.Int.{w64, to_le_bytes}
use Rattle.std.proofs.Math.Nat.{div-div-eq-div-mul}
use mathlib.Core.Path.{◌≡◌}
use Prim.Native.Nat.{ℕ, zero, suc, ◌/◌, ◌^◌, ◌<◌}
use native.Mathlib.Omega.{arith}
use native.Mathlib.Nat.{div-add-mod', div-lt_iff_lt-mul, pow-suc, zero-lt-suc}
use Rattle.parsers.specs.Little.{little_of, little_bytes}

-- a number in k bytes is read back
pub little-back : (k n : ℕ) → n < 256 ^ k → little_of (little_bytes k n) ≡ n
little-back zero n h = omega arith
little-back (suc k) n h =
    let small : n / 256 < 256 ^ k = (div-lt_iff_lt-mul (zero-lt-suc 255)).1 (rw (pow-suc 256 k) at h) in
    rw (little-back k (n / 256) small) (omega (arith, div-add-mod' n 256))

-- eight bytes of a number are those that the library's `to_le_bytes` gives
pub little-written : (n : ℕ) → little_bytes 8 n ≡ to_le_bytes w64 n
little-written n = rw (
  div-div-eq-div-mul n 256 256,
  div-div-eq-div-mul n 65536 256,
  div-div-eq-div-mul n 16777216 256,
  div-div-eq-div-mul n 4294967296 256,
  div-div-eq-div-mul n 1099511627776 256,
  div-div-eq-div-mul n 281474976710656 256,
)
