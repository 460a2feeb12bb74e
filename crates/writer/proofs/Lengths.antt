-- How long the text of a message is. Assumes nothing.
use mathlib.Core.Path.{◌≡◌, refl, sym, ap, ◌∙◌}
use mathlib.Core.Bool.{Bool, true, false}
use mathlib.Core.List.{List}
use Prim.Native.Nat.{ℕ, zero, suc, ◌+◌, ◌-◌, ◌*◌, ◌/◌, ◌≤◌, min}
use native.Mathlib.Nat.{suc-mul, mul-le-mul}
use native.Mathlib.Omega.{arith}
use lib.Dec.{eqb}
use lib.ListN.{length, drop, length-append, length-take, length-drop}
use Rattle.std.specs.Prelude.{Some, None}
use Rattle.refusal.specs.Words.{pick}
use Rattle.sentence.specs.Written.{id_text, channel_text, body_text, line_text}
use Rattle.sentence.proofs.ReadBack.{text-length, text-short}
use Rattle.writer.specs.Message.{chars_in, Message, lines_in, parts_of, text_of, text_from, text_all, Sendable}
use Rattle.writer.specs.Writer.{outside, message_of}
use Rattle.writer.specs.declared.Request.{Request}
use Rattle.writer.proofs.Armoured.{length-armoured}
use Rattle.writer.proofs.Sendable.{sendable, few_lines, writable}
use Rattle.writer.proofs.Lines.{lines_are}

id-length : (b : Bool) (n : ℕ) → 20 + length (id_text (pick b None (Some n))) ≡ pick b 20 21
id-length true n = refl
id-length false n = refl

-- a line takes 60 of the a characters that are left, or all of them
line_takes : (n a : ℕ) → min 60 a + min (60 * n) (a - 60) ≡ min (60 * suc n) a
line_takes n a = omega arith

-- how many bytes each line has beside its characters
abbrev beside_in : Message → ℕ
beside_in m = pick (eqb (lines_in m) 1) 20 21 + length (channel_text m.channel)

module _ (m : Message) (s : Sendable m) where
  line-length : (i : ℕ) → 1 ≤ i → i ≤ lines_in m → length (text_of m i) ≡ beside_in m + min 60 (length m.payload - 60 * (i - 1))
  unfolding text_of parts_of
  line-length i l h =
      omega (
        arith,
        text-length (parts_of m i) (writable m s i l h),
        id-length (eqb (lines_in m) 1) m.number,
        length-take 60 (drop (60 * (i - 1)) m.payload),
        length-drop (60 * (i - 1)) m.payload,
      )

  from-length : (i n : ℕ) → 1 ≤ i → i + n ≤ lines_in m + 1 → length (text_from m i n) ≡ n * beside_in m + min (60 * n) (length m.payload - 60 * (i - 1))
  unfolding text_from
  from-length i zero l h = omega arith
  from-length i (suc n) l h =
      let left : length m.payload - 60 * (i + 1 - 1) ≡ length m.payload - 60 * (i - 1) - 60 = omega arith in
      let rest = rw left at (from-length (i + 1) n (omega arith) (omega arith)) in
      simp (length-append, line-length i l (omega arith), rest, suc-mul, ← line_takes n (length m.payload - 60 * (i - 1))) (omega arith)

  all_length : length (text_all m) ≡ lines_in m * beside_in m + length m.payload
  unfolding text_all lines_in
  all_length = omega (arith, from-length 1 (lines_in m) (omega arith) (omega arith))

  -- seven lines at most, of 22 bytes at most beside their characters
  beside-short : lines_in m * beside_in m ≤ 154
  unfolding lines_in parts_of
  beside-short =
      let w = writable m s 1 (omega arith) (omega (arith, s.some-payload)) in
      mul-le-mul {n₂ = 7} {m₂ = 22} (few_lines m s)
      (omega (arith, id-length (eqb (lines_in m) 1) m.number, text-length (parts_of m 1) w, text-short (parts_of m 1) w))

  -- the body of a line fits into 80 bytes
  pub body-short : (i : ℕ) → 1 ≤ i → i ≤ lines_in m → length (body_text (parts_of m i)) ≤ 80
  unfolding line_text parts_of
  body-short i l h =
      omega (arith, simp length-append at (text-short (parts_of m i) (writable m s i l h)), length-take 60 (drop (60 * (i - 1)) m.payload))

-- the same from what the code finds: k lines, of b bytes each beside their characters
module _ (q : Request) (d : List ℕ) (inside : outside q d ≡ false) (k b : ℕ) (k-is : k ≡ (chars_in q.count + 59) / 60)
    (b-is : b ≡ pick (eqb k 1) 20 21 + length (channel_text q.channel)) where
  lines_found : k ≡ lines_in (message_of q d)
  lines_found = rw lines_are k-is

  beside_found : b ≡ beside_in (message_of q d)
  beside_found = b-is ∙ ap (λ (n : ℕ). pick (eqb n 1) 20 21 + length (channel_text q.channel)) lines_found

  pub lines_small : k * b ≤ 154
  lines_small = rw (lines_found, beside_found) (beside-short (message_of q d) (sendable q d inside))

  pub length_found : k * b + chars_in q.count ≡ length (text_all (message_of q d))
  length_found =
      rw (lines_found, beside_found)
      (sym (all_length (message_of q d) (sendable q d inside)
      ∙ ap (λ (n : ℕ). lines_in (message_of q d) * beside_in (message_of q d) + n) (length-armoured d q.count)))
