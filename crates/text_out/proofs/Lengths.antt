-- How long numbers and bytes are as text. Assumes nothing.
use Prim.Native.Nat.{ℕ, zero, suc, ◌*◌, ◌/◌, ◌%◌, ◌≤◌}
use native.Mathlib.Omega.{arith}
use mathlib.Core.Bool.{Bool, true, false}
use mathlib.Core.Path.{◌≡◌}
use mathlib.Core.List.{List, [], ◌∷◌, ◌++◌}
use lib.Dec.{ltb}
use lib.ListN.{length, length-append}
use Rattle.refusal.specs.Words.{pick}
use Rattle.text_out.specs.Digits.{glyph, hex_of, decimal_in, decimal_of}

digits-most : (k n : ℕ) → length (decimal_in k n) ≤ k
unfolding decimal_in
digits-most zero n = omega arith
digits-most (suc k) n = go (ltb 9 n) (digits-most k (n / 10))
  where
    go : (t : Bool) → length (decimal_in k (n / 10)) ≤ k
        → length (pick t (decimal_in k (n / 10) ++ glyph (n % 10) ∷ []) (glyph n ∷ [])) ≤ suc k
    go true h = rw (length-append (decimal_in k (n / 10)) (glyph (n % 10) ∷ [])) (omega arith)
    go false h = omega arith

-- a decimal has at most twenty digits
pub decimal-most : (n : ℕ) → length (decimal_of n) ≤ 20
decimal-most n = digits-most 20 n

-- a byte is two hex digits
pub hex-length : (s : List ℕ) → length (hex_of s) ≡ 2 * length s
unfolding hex_of
hex-length [] = omega arith
hex-length (b ∷ s) = let e = hex-length s in omega (arith, e)
