-- What is armoured is unarmored again: bits, characters, bits. Assumes nothing.
use mathlib.Core.Path.{◌≡◌, refl, sym, ◌∙◌}
use mathlib.Core.Logic.{⊎_elim}
use mathlib.Core.List.{List, [], ◌∷◌, map, map-append}
use Prim.Native.Nat.{ℕ, zero, suc, ◌-◌, ◌*◌, ◌/◌, ◌≤◌, ◌<◌}
use native.Mathlib.Nat.{zero-div, zero-mod}
use native.Mathlib.Omega.{arith}
use borrow.Author.Tests.{lt-ltb, le-ltb}
use lib.Dec.{lit<}
use lib.ListN.{length, get_or, length-map, get_or-eq_default}
use lib.Seq.{ext_get_or}
use Rattle.parsers.specs.Bits.{val, bit_at, cut, pack}
use Rattle.parsers.proofs.Laws.{lt_or_le, bit_lt, cut_lt, cut_ext, cut-cut, bit-pack, length-pack, get_or-pack, val-lt, pack_ext}
use Rattle.armour.specs.Armour.{meaning, letter, first_bad, stream, size, unarmored}
use Rattle.armour.proofs.Laws.{meaning-letter, get_d_map}
use Rattle.scan.specs.Scan.{All}
use Rattle.scan.proofs.Placed.{all_append}
use Rattle.writer.specs.Message.{chars_in, fill_in, armoured}

-- the character of a six-bit value stands between `0` and `w`
pub letter_range : (v : ℕ) → v < 64 → (48 ≤ letter v) × (letter v ≤ 119)
letter_range v h =
    ⊎_elim
    (λ l. rw (lt-ltb v 40 l) (omega arith, omega arith))
    (λ l. rw (le-ltb v 40 l) (omega arith, omega arith))
    (lt_or_le v 40)

-- what holds of the character of every six-bit value holds of each character
letters_all : (P : ℕ → Type 0) → ((v : ℕ) → v < 64 → P (letter v)) → (n : ℕ) (f : ℕ → ℕ) → ((i : ℕ) → f i < 2) → All P (map letter (pack 6 n f))
unfolding pack
letters_all P h zero f b = tt
letters_all P h (suc n) f b =
    rw map-append (all_append P (map letter (pack 6 n f)) _ (letters_all P h n f b) (h (val f (n * 6) 6) (val-lt f b (n * 6) 6), tt))

-- where every byte is armour the scan comes to the end
none_bad : (s : List ℕ) → All (λ (b : ℕ). meaning b < 64) s → first_bad s ≡ length s
none_bad [] h = refl
none_bad (b ∷ s) h = rw (lt-ltb (meaning b) 64 h.0, none_bad s h.1)

-- past the end of a list its bits are 0
past_end : (k : ℕ) (l : List ℕ) (i : ℕ) → length l ≤ i / k → bit_at k l i ≡ 0
unfolding bit_at
past_end k l i h = rw (get_or-eq_default l 0 h, zero-div, zero-mod)

module _ (d : List ℕ) (n : ℕ) where
  bits : ℕ → ℕ
  bits = cut n (bit_at 8 d)

  bits_lt : (i : ℕ) → bits i < 2
  unfolding bits
  bits_lt = cut_lt n (bit_at 8 d) (bit_lt 8 d)

  sixes : List ℕ
  sixes = pack 6 (chars_in n) bits

  six-is : (i : ℕ) → i < length (map meaning (map letter sixes)) → get_or (map meaning (map letter sixes)) i 0 ≡ get_or sixes i 0
  unfolding sixes
  six-is i h =
      let k : i < length sixes = rw (length-map (map letter sixes) meaning, length-map sixes letter) at h in
      let m : i < length (map letter sixes) = rw (length-map sixes letter) k in
      let j : i < chars_in n = rw (length-pack 6 (chars_in n) bits) at k in
      rw (get_d_map meaning (map letter sixes) i m, get_d_map letter sixes i k, get_or-pack 6 (chars_in n) bits i j)
      (meaning-letter (val bits (i * 6) 6) (val-lt bits bits_lt (i * 6) 6))

  back : map meaning (map letter sixes) ≡ sixes
  back = ext_get_or 0 _ _ (length-map (map letter sixes) meaning ∙ length-map sixes letter) six-is

  pub length-armoured : length (armoured d n) ≡ chars_in n
  unfolding armoured bits sixes
  length-armoured = length-map sixes letter ∙ length-pack 6 (chars_in n) bits

  -- every character is one of armour
  pub armoured_range : All (λ (b : ℕ). (48 ≤ b) × (b ≤ 119)) (armoured d n)
  unfolding armoured bits
  armoured_range = letters_all _ letter_range (chars_in n) bits bits_lt

  pub armoured_good : first_bad (armoured d n) ≡ length (armoured d n)
  unfolding armoured bits
  armoured_good = none_bad (armoured d n) (letters_all (λ (b : ℕ). meaning b < 64) (λ v h. rw (meaning-letter v h) h) (chars_in n) bits bits_lt)

  -- the stream of the characters, with their fill, is the n bits and zeros
  pub stream-back : (i : ℕ) → stream (armoured d n) (fill_in n) i ≡ cut n (bit_at 8 d) i
  unfolding armoured stream bits sixes
  stream-back i =
      let e : length (armoured d n) * 6 - fill_in n ≡ n = omega (arith, length-armoured) in
      rw (e, back) (cut_ext n (bit_at 6 sixes) bits i (λ h. bit-pack 6 (chars_in n) bits (lit< tt) bits_lt i (omega arith)) ∙ cut-cut n (bit_at 8 d) i)

  -- unarmored they are the n bits, with zeros up to whole bytes
  pub round_trip : unarmored (armoured d n) (fill_in n) ≡ pack 8 (size (chars_in n)) (cut n (bit_at 8 d))
  round_trip = rw length-armoured (pack_ext 8 (size (chars_in n)) (stream (armoured d n) (fill_in n)) (cut n (bit_at 8 d)) stream-back)

  -- bit by bit: the bits come back, with only zeros after them
  pub bits_back : (i : ℕ) → bit_at 8 (unarmored (armoured d n) (fill_in n)) i ≡ cut n (bit_at 8 d) i
  unfolding bits cut
  bits_back i = rw round_trip (⊎_elim within_end beyond (lt_or_le i (size (chars_in n) * 8)))
    where
      within_end : i < size (chars_in n) * 8 → bit_at 8 (pack 8 (size (chars_in n)) bits) i ≡ bits i
      within_end h = bit-pack 8 (size (chars_in n)) bits (lit< tt) bits_lt i h

      beyond : size (chars_in n) * 8 ≤ i → bit_at 8 (pack 8 (size (chars_in n)) bits) i ≡ bits i
      beyond h = past_end 8 (pack 8 (size (chars_in n)) bits) i (rw length-pack (omega arith)) ∙ sym (rw (le-ltb i n (omega arith)))
