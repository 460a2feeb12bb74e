-- The bytes of a string one by one. Assumes nothing.
use Prim.Native.Nat.{ℕ, ◌+◌, ◌≤◌, ◌<◌}
use native.Mathlib.Omega.{arith}
use native.Mathlib.Numerals.{add-one}
use mathlib.Core.Path.{◌≡◌, ap, ◌∙◌}
use mathlib.Core.List.{List}
use lib.ListN.{length, get_or, drop, drop_of_length-le}
use lib.Seq.{drop-cons}
use borrow.Author.Tests.{ne_eqb, le-leb, lt-leb}
use Rattle.refusal.specs.Words.{within}
use Rattle.text_out.specs.Text.{Text, put}
use Rattle.text_out.proofs.Laws.{put-put}
use Rattle.face_values.specs.Quoted.{code_of, escaped, inside}

-- a byte that is told by its number
module _ (b : ℕ) (quote : b ≡ 34 → ⊥) (solidus : b ≡ 92 → ⊥) where
  pub escaped_low : b < 32 → escaped b ≡ code_of b
  unfolding escaped within
  escaped_low l = rw (ne_eqb b 34 quote, ne_eqb b 92 solidus, lt-leb 32 b l)

  pub escaped_high : 126 < b → escaped b ≡ code_of b
  unfolding escaped within
  escaped_high h = rw (ne_eqb b 34 quote, ne_eqb b 92 solidus, le-leb 32 b (omega arith), lt-leb b 126 h)

-- a string's bytes: what is put so far and what is left are the whole
module _ (x : Text) (s : List ℕ) (i : ℕ) where
  pub inside-end : length s ≤ i → put x (inside (drop i s)) ≡ x
  unfolding put inside
  inside-end h = rw (drop_of_length-le s h)

  pub inside_step : {y z : Text} → i < length s → y ≡ put x (escaped (get_or s i 0)) → put x (inside (drop i s)) ≡ z → put y (inside (drop (i + 1) s)) ≡ z
  unfolding inside
  inside_step here e inv =
      ap (λ (t : Text). put t (inside (drop (i + 1) s))) e ∙ put-put x (escaped (get_or s i 0)) (inside (drop (i + 1) s))
      ∙ ap (put x) (rw (drop-cons s i 0 here, add-one i)) ∙ inv
