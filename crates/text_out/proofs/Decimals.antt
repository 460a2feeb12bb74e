-- Decimal digits, spelt from the last one on: those of what is left and those that stand already are the whole. Assumes nothing.
use Prim.Native.Nat.{ℕ, zero, suc, ◌-◌, ◌*◌, ◌/◌, ◌%◌, ◌^◌, ◌≤◌, ◌<◌}
use native.Mathlib.Omega.{arith}
use native.Mathlib.Nat.{pow-suc}
use mathlib.Core.Path.{◌≡◌, sym, ◌∙◌}
use mathlib.Core.List.{List, [], ◌∷◌, ◌++◌, append_assoc}
use lib.ListN.{length, drop, set, length-set}
use lib.Seq.{drop-cons, get_or-set_same, drop-set-lt}
use borrow.Author.Tests.{lt-ltb, le-ltb}
use Rattle.text_out.specs.Digits.{glyph, decimal_in}

drop-set-here : (l : List ℕ) (k a : ℕ) → k < length l → drop k (set l k a) ≡ a ∷ drop (suc k) l
drop-set-here l k a h =
    drop-cons (set l k a) k 0 (rw length-set h) ∙ rw (get_or-set_same l k a 0 h, drop-set-lt (suc k) l k a (omega arith))

module _ (whole t : List ℕ) (d rest : ℕ) where
  -- a digit more in front of those that stand last
  pub digits-turn : (i : ℕ) → 9 < rest → rest < 10 ^ i → i ≤ length t → d ≡ glyph (rest % 10) → decimal_in i rest ++ drop i t ≡ whole
      → (decimal_in (i - 1) (rest / 10) ++ drop (i - 1) (set t (i - 1) d) ≡ whole) × (rest / 10 < 10 ^ (i - 1)) × (1 < i)
  unfolding decimal_in
  digits-turn zero more less l e inv = absurd (omega arith)
  digits-turn (suc k) more less l e inv =
      let z : suc k - 1 ≡ k = omega arith in
      let p : 10 ^ suc k ≡ 10 ^ k * 10 = pow-suc 10 k in
      let old : (decimal_in k (rest / 10) ++ glyph (rest % 10) ∷ []) ++ drop (suc k) t ≡ whole = rw (lt-ltb 9 rest more) at inv in (
        rw (z, drop-set-here t k d (omega arith), e) (sym (append_assoc (decimal_in k (rest / 10)) (glyph (rest % 10) ∷ []) (drop (suc k) t)) ∙ old),
        rw z (omega arith),
        at_least k (omega arith),
      )
    where
      at_least : (k : ℕ) → 9 < 10 ^ k * 10 - 1 → 1 < suc k
      at_least zero h = absurd (omega arith)
      at_least (suc k) h = omega arith

  -- the first digit
  pub digits_last : (i : ℕ) → 0 < i → rest ≤ 9 → i ≤ length t → d ≡ glyph rest → decimal_in i rest ++ drop i t ≡ whole → drop (i - 1) (set t (i - 1) d) ≡ whole
  unfolding decimal_in
  digits_last zero some less l e inv = absurd (omega arith)
  digits_last (suc k) some less l e inv =
      let z : suc k - 1 ≡ k = omega arith in
      let old : (glyph rest ∷ []) ++ drop (suc k) t ≡ whole = rw (le-ltb 9 rest less) at inv in
      rw (z, drop-set-here t k d (omega arith), e) old

-- a number below 10 is its own digit
pub one-digit : (n : ℕ) → n < 10 → decimal_in 20 n ≡ glyph n ∷ []
unfolding decimal_in
one-digit n h = rw (le-ltb 9 n (omega arith))
