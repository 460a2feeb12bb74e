-- The characters of a payload, each from its six bits. Assumes nothing.
use mathlib.Core.Path.{◌≡◌, sym, ap, ◌∙◌}
use mathlib.Core.List.{List}
use Prim.Native.Nat.{ℕ, ◌+◌, ◌*◌, ◌/◌, ◌%◌, ◌^◌, ◌≤◌, ◌<◌}
use native.Mathlib.Nat.{div-mul-le_self}
use native.Mathlib.Omega.{arith}
use lib.ListN.{length, get_or}
use Rattle.parsers.specs.Bits.{val, bit_at, cut, pack}
use Rattle.parsers.specs.Field.{field_of}
use Rattle.parsers.proofs.Laws.{bit_lt, cut-whole, cut-last, get_or-pack, length-pack}
use Rattle.armour.specs.Armour.{letter}
use Rattle.armour.proofs.Laws.{get_d_map}
use Rattle.writer.specs.Message.{chars_in, armoured}

module _ (d : List ℕ) (n i : ℕ) (here : i < chars_in n) where
  char_is : get_or (armoured d n) i 0 ≡ letter (val (cut n (bit_at 8 d)) (i * 6) 6)
  unfolding armoured
  char_is =
      let f = cut n (bit_at 8 d) in
      let h : i < length (pack 6 (chars_in n) f) = rw length-pack here in
      get_d_map letter (pack 6 (chars_in n) f) i h ∙ ap letter (get_or-pack 6 (chars_in n) f i here)

  -- a character whose bits are all counted
  pub char_whole : i * 6 + 6 ≤ n → letter (field_of d (i * 6) 6) ≡ get_or (armoured d n) i 0
  unfolding field_of
  char_whole h = sym (char_is ∙ ap letter (cut-whole n (bit_at 8 d) (i * 6) 6 h))

  -- the last one, of which e bits are not
  pub char_last : (e : ℕ) → e ≤ 6 → n + e ≡ i * 6 + 6 → letter (field_of d (i * 6) 6 / 2 ^ e * 2 ^ e) ≡ get_or (armoured d n) i 0
  unfolding field_of
  char_last e l h = sym (char_is ∙ ap letter (cut-last n (bit_at 8 d) (bit_lt 8 d) (i * 6) 6 e l h))

-- six bits of which the last are cleared are six bits
pub cleared_small : (v p : ℕ) → v < 64 → v / p * p % 2 ^ 8 < 64
cleared_small v p h = omega (arith, div-mul-le_self v p)
