-- The ways out of reading a word as bytes. Assumes nothing.
use Prim.Native.Nat.{ℕ, ◌+◌, ◌/◌, ◌%◌, ◌≤◌, ◌<◌}
use native.Mathlib.Omega.{arith}
use mathlib.Core.Path.{◌≡◌, ap, ◌∙◌}
use mathlib.Core.Bool.{true, false, ◌&&◌}
use mathlib.Core.List.{List, ◌++◌}
use lib.ListN.{length, drop}
use lib.Dec.{eqb, ltb}
use borrow.Author.Tests.{le-leb, lt-leb}
use Rattle.refusal.specs.Words.{over}
use Rattle.text_out.specs.Text.{Text, text, put, ascii}
use Rattle.text_out.proofs.Laws.{put-fits}
use Rattle.lines.specs.Same.{same_as}
use Rattle.trace_commands.specs.Hex.{all_hex, bytes_of, pairs_of, filled_of, left_of, Fills}
use Rattle.std.specs.Prelude.{Some, None}
use Rattle.lines.proofs.Same.{both, same_is}
use Rattle.trace_commands.proofs.Readings.{bytes-length}

-- a word of pairs is hex
pub pairs_hex : (w : List ℕ) → pairs_of w ≡ true → all_hex w ≡ true
pairs_hex w e = (both (eqb (length w % 2) 0) (all_hex w) (both (ltb 0 (length w)) (eqb (length w % 2) 0 && all_hex w) e).1).1

-- `-` is no pair
dash_no_pair : (w : List ℕ) → same_as w (ascii "-") ≡ true → pairs_of w ≡ false
dash_no_pair w e = rw (same_is w (ascii "-") e)

module _ (w buffer : List ℕ) where
  pub fills_none : same_as w (ascii "-") ≡ true → Fills w buffer (Some 0) buffer
  unfolding filled_of left_of
  fills_none e = record { answers = rw e; leaves = rw (dash_no_pair w e) }

  module _ (word : same_as w (ascii "-") ≡ false) where
    pub fills_no_pairs : pairs_of w ≡ false → Fills w buffer None buffer
    unfolding filled_of left_of
    fills_no_pairs e = record { answers = rw (word, e); leaves = rw e }

    module _ (pairs : pairs_of w ≡ true) where
      pub fills_no_room : length buffer < length w / 2 → Fills w buffer None buffer
      unfolding filled_of left_of
      fills_no_room l =
          record { answers = rw (word, pairs, lt-leb (length w / 2) (length buffer) l); leaves = rw (pairs, lt-leb (length w / 2) (length buffer) l) }

      pub fills_some : length w / 2 ≤ length buffer → (n : ℕ) (after : List ℕ) → text n after ≡ put (text 0 buffer) (bytes_of w) → Fills w buffer (Some n) after
      unfolding filled_of left_of
      fills_some l n after e =
          let k : length (bytes_of w) ≡ length w / 2 = bytes-length w in
          let z : 0 + length (bytes_of w) ≡ length (bytes_of w) = omega arith in
          let f : text n after ≡ text (length (bytes_of w)) (over (bytes_of w) buffer) =
          e ∙ put-fits 0 buffer (bytes_of w) (omega arith) ∙ ap (λ (i : ℕ). text i (bytes_of w ++ drop i buffer)) z in
          record {
            answers = ap (λ (t : Text). Some t.at) f ∙ ap Some k ∙ rw (word, pairs, le-leb (length w / 2) (length buffer) l);
            leaves = ap (λ (t : Text). t.bytes) f ∙ rw (pairs, le-leb (length w / 2) (length buffer) l);
          }
