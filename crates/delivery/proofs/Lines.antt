-- The lines of a message: how many they are, what each says of itself, and that their characters make the payload. Assumes nothing.
use Prim.Native.Nat.{ℕ, ◌+◌, ◌-◌, ◌*◌, ◌≤◌, ◌<◌}
use native.Mathlib.Omega.{arith}
use mathlib.Core.Path.{◌≡◌, refl, sym}
use mathlib.Core.List.{List, ◌++◌}
use lib.ListN.{length, take, drop, length-take, length-drop}
use lib.Seq.{take-add, take_all}
use borrow.Author.Tests.{eq-eqb, ne_eqb}
use Rattle.std.specs.Prelude.{Some, None}
use Rattle.sentence.specs.Written.{sentence_of}
use Rattle.sentence.specs.declared.AisSentence.{AisSentence}
use Rattle.reassembly.specs.declared.Fragment.{Fragment}
use Rattle.ais.specs.Call.{fragment_of}
use Rattle.writer.specs.Message.{Message, Sendable, lines_in, parts_of}

-- a line's own characters
abbrev pub own : Message → ℕ → List ℕ
own m i = take 60 (drop (60 * (i - 1)) m.payload)

-- the sentence of a line
abbrev pub said : Message → ℕ → AisSentence
said m i = sentence_of (parts_of m i)

-- what the record takes from a line of several, and from a single line
abbrev pub fragment : Message → ℕ → Fragment
fragment m i = record { num_fragments = lines_in m; fragment_number = i; message_id = Some m.number }

abbrev pub single : Fragment
single = record { num_fragments = 1; fragment_number = 1; message_id = None }

module _ (m : Message) where
  pub some_lines : Sendable m → 1 ≤ lines_in m
  unfolding lines_in
  some_lines s = omega (arith, s.some-payload)

  covered : length m.payload ≤ 60 * lines_in m
  unfolding lines_in
  covered = omega arith

  pub all_lines : (j : ℕ) → j ≡ lines_in m → take (60 * j) m.payload ≡ m.payload
  all_lines j e = take_all (60 * j) m.payload (omega (arith, covered))

  -- the first j lines and line j + 1 are the first j + 1 lines
  pub joins : (j : ℕ) → take (60 * j) m.payload ++ take 60 (drop (60 * j) m.payload) ≡ take (60 * (j + 1)) m.payload
  joins j = let e : 60 * (j + 1) ≡ 60 * j + 60 = omega arith in sym (rw (e, take-add))

  pub room : Sendable m → (j : ℕ) → length (take (60 * j) m.payload) + length (take 60 (drop (60 * j) m.payload)) ≤ 384
  room s j = simp (length-take, length-drop) (omega (arith, s.fits))

  module _ (i : ℕ) where
    pub own_short : length (own m i) ≤ 60
    own_short = simp length-take (omega arith)

    pub own_is : (parts_of m i).payload ≡ own m i
    unfolding parts_of
    own_is = refl

    pub number_several : 1 < lines_in m → (parts_of m i).id ≡ Some m.number
    unfolding parts_of
    number_several h = rw (ne_eqb (lines_in m) 1 (omega arith))

    pub of_several : 1 < lines_in m → fragment_of (said m i) ≡ fragment m i
    unfolding parts_of
    of_several h = rw (ne_eqb (lines_in m) 1 (omega arith))

    pub last-fill : i ≡ lines_in m → (said m i).fill_bit_count ≡ m.fill
    unfolding parts_of
    last-fill e = rw (eq-eqb i (lines_in m) e)

  pub of-single : lines_in m ≡ 1 → fragment_of (said m 1) ≡ single
  unfolding parts_of
  of-single e = rw e
