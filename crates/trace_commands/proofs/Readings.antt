-- Digits from a place of a word on, one by one: as a decimal, and in pairs as bytes. Assumes nothing.
use Prim.Native.Nat.{ℕ, zero, suc, ◌+◌, ◌-◌, ◌*◌, ◌/◌, ◌^◌, ◌≤◌, ◌<◌}
use native.Mathlib.Omega.{arith}
use native.Mathlib.Numerals.{add-one}
use mathlib.Core.Path.{◌≡◌, refl, sym, ap, ◌∙◌}
use mathlib.Core.Bool.{true, false}
use mathlib.Core.List.{List, [], ◌∷◌}
use lib.ListN.{length, get_or, drop, drop_of_length-le, length-drop}
use lib.Seq.{drop-cons}
use lib.Dec.{ltb}
use borrow.Author.Tests.{lt-ltb, le-ltb, ltb-true}
use Rattle.refusal.proofs.Within.{in_range, below_range, above_range}
use Rattle.text_out.specs.Text.{Text, put}
use Rattle.text_out.proofs.Laws.{put-put}
use Rattle.trace_commands.specs.Numbers.{digit_of, number_from}
use Rattle.trace_commands.specs.Hex.{all_hex, bytes_of}
use Rattle.std.specs.Prelude.{Some, None}
use Rattle.lines.proofs.Same.{both}

-- a byte, by where it lies
module _ (x : ℕ) where
  pub digit-decimal : 48 ≤ x → x < 58 → x - 48 ≡ digit_of x
  digit-decimal l h = rw (in_range 48 57 x l (omega arith))

  pub digit-letter : 97 ≤ x → x < 103 → x - 97 + 10 ≡ digit_of x
  digit-letter l h = rw (above_range 48 57 x (omega arith) (omega arith), in_range 97 102 x l (omega arith)) (omega arith)

  pub digit-below : x < 48 → 16 ≡ digit_of x
  digit-below h = rw (below_range 48 57 x h, below_range 97 102 x (omega arith))

  pub digit-between : 58 ≤ x → x < 97 → 16 ≡ digit_of x
  digit-between l h = rw (above_range 48 57 x (omega arith) (omega arith), below_range 97 102 x h)

  pub digit_above : 103 ≤ x → 16 ≡ digit_of x
  digit_above l = rw (above_range 48 57 x (omega arith) (omega arith), above_range 97 102 x (omega arith) (omega arith))

-- decimal digits
module _ (w : List ℕ) (v i : ℕ) where
  pub number-end : length w ≤ i → number_from v (drop i w) ≡ Some v
  unfolding number_from
  number-end l = rw (drop_of_length-le w l)

  module _ (here : i < length w) where
    pub number-next : digit_of (get_or w i 0) < 10 → v * 10 + digit_of (get_or w i 0) < 2 ^ 64
        → number_from v (drop i w) ≡ number_from (v * 10 + digit_of (get_or w i 0)) (drop (i + 1) w)
    unfolding number_from
    number-next d f = rw (drop-cons w i 0 here, lt-ltb (digit_of (get_or w i 0)) 10 d, lt-ltb (v * 10 + digit_of (get_or w i 0)) (2 ^ 64) f, add-one i)

    pub number_no_digit : 10 ≤ digit_of (get_or w i 0) → number_from v (drop i w) ≡ None
    unfolding number_from
    number_no_digit d = rw (drop-cons w i 0 here, le-ltb (digit_of (get_or w i 0)) 10 d)

    pub number_too_large : digit_of (get_or w i 0) < 10 → 2 ^ 64 ≤ v * 10 + digit_of (get_or w i 0) → number_from v (drop i w) ≡ None
    unfolding number_from
    number_too_large d f = rw (drop-cons w i 0 here, lt-ltb (digit_of (get_or w i 0)) 10 d, le-ltb (v * 10 + digit_of (get_or w i 0)) (2 ^ 64) f)

-- hex digits
module _ (w : List ℕ) (i : ℕ) where
  pub hex-end : length w ≤ i → true ≡ all_hex (drop i w)
  unfolding all_hex
  hex-end l = rw (drop_of_length-le w l)

  pub hex-next : i < length w → digit_of (get_or w i 0) < 16 → all_hex (drop (i + 1) w) ≡ all_hex (drop i w)
  unfolding all_hex
  hex-next here d = rw (drop-cons w i 0 here, lt-ltb (digit_of (get_or w i 0)) 16 d, add-one i)

  pub hex-not : i < length w → 16 ≤ digit_of (get_or w i 0) → false ≡ all_hex (drop i w)
  unfolding all_hex
  hex-not here d = rw (drop-cons w i 0 here, le-ltb (digit_of (get_or w i 0)) 16 d)

-- each byte of a word that is hex is a digit
pub hex-at : (w : List ℕ) → all_hex w ≡ true → (i : ℕ) → i < length w → digit_of (get_or w i 0) < 16
unfolding all_hex
hex-at [] e i l = absurd (omega arith)
hex-at (x ∷ w) e zero l = ltb-true (digit_of x) 16 (both (ltb (digit_of x) 16) (all_hex w) e).0
hex-at (x ∷ w) e (suc i) l = hex-at w (both (ltb (digit_of x) 16) (all_hex w) e).1 i (omega arith)

-- pairs of digits
pub bytes-length : (w : List ℕ) → length (bytes_of w) ≡ length w / 2
unfolding bytes_of
bytes-length [] = refl
bytes-length (x ∷ []) = refl
bytes-length (x ∷ y ∷ w) = omega (arith, bytes-length w)

module _ (w : List ℕ) (i : ℕ) where
  pub pair-next : i + 1 < length w → bytes_of (drop i w) ≡ (digit_of (get_or w i 0) * 16 + digit_of (get_or w (i + 1) 0)) ∷ bytes_of (drop (i + 2) w)
  unfolding bytes_of
  pair-next l =
      let two : i + 2 ≡ suc (suc i) = omega arith in
      rw (drop-cons w i 0 (omega arith), drop-cons w (suc i) 0 (omega arith), two, add-one i)

  pub pair_end : i ≤ length w → length w ≤ i + 1 → bytes_of (drop i w) ≡ []
  unfolding bytes_of
  pair_end l h = go (drop i w) length-few
    where
      length-few : length (drop i w) ≤ 1
      length-few = omega (arith, length-drop i w)

      go : (s : List ℕ) → length s ≤ 1 → bytes_of s ≡ []
      go [] f = refl
      go (x ∷ []) f = refl
      go (x ∷ y ∷ s) f = absurd (omega arith)

  pub store_next : (x y z : Text) (b : ℕ) → i + 1 < length w → b ≡ digit_of (get_or w i 0) * 16 + digit_of (get_or w (i + 1) 0) → y ≡ put x (b ∷ [])
      → put x (bytes_of (drop i w)) ≡ z → put y (bytes_of (drop (i + 2) w)) ≡ z
  store_next x y z b here is e inv =
      ap (λ (t : Text). put t (bytes_of (drop (i + 2) w))) e ∙ put-put x (b ∷ []) (bytes_of (drop (i + 2) w))
      ∙ ap (put x) (ap (λ (n : ℕ). n ∷ bytes_of (drop (i + 2) w)) is ∙ sym (pair-next here)) ∙ inv
