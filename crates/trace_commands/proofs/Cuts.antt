-- Words from a place of a line on, byte by byte; the first word, and the count of words, by the spaces. Assumes nothing.
use Prim.Native.Nat.{ℕ, zero, suc, ◌+◌, ◌-◌, ◌≤◌, ◌<◌}
use native.Mathlib.Omega.{arith}
use native.Mathlib.Numerals.{add-one}
use mathlib.Core.Path.{◌≡◌, refl, ap, ◌∙◌}
use mathlib.Core.Bool.{Bool, true, false}
use mathlib.Core.List.{List, [], ◌∷◌}
use lib.Dec.{eqb}
use lib.ListN.{length, get_or, take, drop, drop_of_length-le}
use lib.Seq.{drop-cons}
use borrow.Author.Tests.{eq-eqb, ne_eqb}
use Rattle.std.specs.Prelude.{cond, count_by, position, unwrap_or}
use Rattle.std.specs.List.{position_or_len}
use Rattle.std.proofs.lemmas.Grind.{common_steps}
use Rattle.std.proofs.lemmas.List.Sums.{prefix_len-le-length, sum_by-cons}
use Rattle.trace_commands.specs.Line.{word_at, count_of}

nothing : (k : ℕ) → word_at k [] ≡ []
unfolding word_at
nothing zero = refl
nothing (suc k) = refl

module _ (s : List ℕ) (i : ℕ) where
  -- at the line's end
  module _ (over : length s ≤ i) where
    pub word_end : (k : ℕ) → word_at k (drop i s) ≡ []
    word_end k = ap (word_at k) (drop_of_length-le s over) ∙ nothing k

  module _ (here : i < length s) where
    -- at a space
    module _ (space : get_or s i 0 ≡ 32) where
      pub skip_space : (k : ℕ) → 0 < k → word_at (k - 1) (drop (i + 1) s) ≡ word_at k (drop i s)
      unfolding word_at
      skip_space zero l = absurd (omega arith)
      skip_space (suc k) l =
          let z : suc k - 1 ≡ k = omega arith in rw (z, drop-cons s i 0 here, eq-eqb (get_or s i 0) 32 space, add-one i)

    -- at another byte
    module _ (other : get_or s i 0 ≡ 32 → ⊥) where
      pub skip-other : (k : ℕ) → 0 < k → word_at k (drop (i + 1) s) ≡ word_at k (drop i s)
      unfolding word_at
      skip-other zero l = absurd (omega arith)
      skip-other (suc k) l = rw (drop-cons s i 0 here, ne_eqb (get_or s i 0) 32 other, add-one i)

-- a byte that ends a word
abbrev space : ℕ → Bool
space x = eqb x 32

-- one word more than spaces
pub spaces_counted : (s : List ℕ) → count_by space s + 1 ≡ count_of s
unfolding count_of
spaces_counted [] = refl
spaces_counted (x ∷ s) = go (eqb x 32) refl (sum_by-cons (λ (y : ℕ). cond (space y) 1 0) x s) (spaces_counted s)
  where
    go : (b : Bool) → eqb x 32 ≡ b → count_by space (x ∷ s) ≡ cond b 1 0 + count_by space s → count_by space s + 1 ≡ count_of s
        → count_by space (x ∷ s) + 1 ≡ count_of (x ∷ s)
    go true e z h = let k : count_of (x ∷ s) ≡ count_of s + 1 = rw e in omega (arith, z, h, k)
    go false e z h = let k : count_of (x ∷ s) ≡ count_of s = rw e in omega (arith, z, h, k)

-- the first word is what stands before the first space, or all
until_inside : (s : List ℕ) → position_or_len space s ≤ length s
until_inside s = prefix_len-le-length _ s

until_word : (s : List ℕ) → take (position_or_len space s) s ≡ word_at 0 s
unfolding word_at
until_word [] = refl
until_word (x ∷ s) = go (eqb x 32) refl (until_word s)
  where
    go : (b : Bool) → eqb x 32 ≡ b → take (position_or_len space s) s ≡ word_at 0 s → take (position_or_len space (x ∷ s)) (x ∷ s) ≡ word_at 0 (x ∷ s)
    go true e h = rw e
    go false e h = let z : 1 + position_or_len space s ≡ suc (position_or_len space s) = omega arith in rw (e, z, h)

module _ (s : List ℕ) (n : ℕ) (found : n ≡ unwrap_or (position space s) (length s)) where
  at_space : n ≡ position_or_len space s
  at_space = grind (arith, common_steps, until_inside s)

  pub first_inside : n ≤ length s
  first_inside = omega (arith, at_space, until_inside s)

  pub first_word : take n s ≡ word_at 0 s
  first_word = ap (λ (k : ℕ). take k s) at_space ∙ until_word s
