-- The characters of a payload that is all armour, put one after the other where zeros stood. Assumes nothing.
use mathlib.Core.Logic.{⊎_elim}
use mathlib.Core.Path.{◌≡◌, sym, ap, ◌∙◌}
use mathlib.Core.List.{List, [], ◌∷◌}
use Prim.Native.Nat.{ℕ, zero, suc, ◌+◌, ◌*◌, ◌/◌, ◌%◌, ◌^◌, ◌≤◌, ◌<◌}
use native.Mathlib.Nat.{mod-eq_of_lt}
use native.Mathlib.Omega.{arith}
use borrow.Author.Tests.{lt-ltb, le-ltb}
use lib.ListN.{length, get_or, set, replicate, get_or-replicate, get_or-eq_default, length-replicate, length-set}
use lib.Seq.{get_or-set_same, get_or-set_other}
use Rattle.parsers.specs.Bits.{val}
use Rattle.parsers.proofs.Laws.{lt_or_le}
use Rattle.armour.specs.Armour.{meaning, first_bad, stream}
use Rattle.armour.specs.Spread.{Spreads, Sixes}
use Rattle.armour.proofs.Laws.{six-past, six_inner, six-last, stream_lt}

-- every byte of such a payload is armour
pub good_at : (s : List ℕ) (i : ℕ) → i < length s → length s ≤ first_bad s → meaning (get_or s i 0) < 64
good_at [] i h g = absurd (omega arith)
good_at (b ∷ s) i h g =
    ⊎_elim
    (λ l. good i h l (rw (lt-ltb (meaning b) 64 l) at g) (good_at s))
    (λ l. absurd (bad (rw (le-ltb (meaning b) 64 l) at g)))
    (lt_or_le (meaning b) 64)
  where
    bad : suc (length s) ≤ 0 → ⊥
    bad p = omega arith

    good : (i : ℕ) → i < suc (length s) → meaning b < 64 → suc (length s) ≤ suc (first_bad s)
        → ((k : ℕ) → k < length s → length s ≤ first_bad s → meaning (get_or s k 0) < 64) → meaning (get_or (b ∷ s) i 0) < 64
    good zero h l p more = l
    good (suc i) h l p more = more i (omega arith) (omega arith)

module _ (f : ℕ → ℕ) (size : ℕ) where
  -- the first i characters stand there, and zeros after them
  pub record Begun (i : ℕ) (out : List ℕ) : Type 0 where
    pub long : length out ≡ size
    pub six : (j : ℕ) → j < i → get_or out j 0 ≡ val f (j * 6) 6
    pub rest : (j : ℕ) → i ≤ j → get_or out j 0 ≡ 0

  abbrev zeros : List ℕ
  zeros = replicate size 0

  zeros_long : length zeros ≡ size
  zeros_long = length-replicate {A = ℕ} size 0

  zero-at : (j : ℕ) → get_or zeros j 0 ≡ 0
  zero-at j = ⊎_elim (get_or-replicate {A = ℕ} size j 0 0) (λ l. get_or-eq_default zeros 0 {n = j} (omega (arith, zeros_long))) (lt_or_le j size)

  pub begun : (out : List ℕ) → out ≡ replicate size 0 → Begun 0 out
  begun out e = record { long = ap length e ∙ zeros_long; six = λ j h. absurd (omega arith); rest = λ j h. rw e (zero-at j) }

  pub begun_more : (i v : ℕ) (out : List ℕ) → Begun i out → i < size → v ≡ val f (i * 6) 6 → Begun (i + 1) (set out i v)
  begun_more i v out b h e = record {
    long = simp length-set b.long;
    six = λ j l. ⊎_elim (λ k. get_or-set_other out i j v 0 (λ q. omega arith) ∙ b.six j k) (λ k. here j (omega arith)) (lt_or_le j i);
    rest = λ j l. get_or-set_other out i j v 0 (λ q. omega arith) ∙ b.rest j (omega arith);
  }
    where
      here : (j : ℕ) → j ≡ i → get_or (set out i v) j 0 ≡ val f (j * 6) 6
      here j q = rw q (get_or-set_same out i v 0 (omega (arith, b.long)) ∙ e)

  pub begun_all : (n : ℕ) (out : List ℕ) → Begun n out → ((k : ℕ) → f k < 2) → ((j : ℕ) → n ≤ j → 0 ≡ val f (j * 6) 6) → Sixes f out
  begun_all n out b lt past = record { bit = lt; six = λ j. ⊎_elim (b.six j) (λ l. b.rest j l ∙ past j l) (lt_or_le j n) }

-- the characters of a payload that is spread
module _ (s : List ℕ) (fill : ℕ) (p : Spreads s fill) where
  pub good : (i : ℕ) → i < length s → meaning (get_or s i 0) < 64
  good i h = good_at s i h p.armour

  whole : (i : ℕ) → i < length s → meaning (get_or s i 0) ≡ meaning (get_or s i 0) % 2 ^ 6
  whole i h = sym (mod-eq_of_lt (good i h))

  pub inner : (i : ℕ) → i + 1 < length s → meaning (get_or s i 0) ≡ val (stream s fill) (i * 6) 6
  inner i h = whole i (omega arith) ∙ six_inner s fill i h p.filled

  pub last : (i : ℕ) → i + 1 ≡ length s → meaning (get_or s i 0) / 2 ^ fill * 2 ^ fill ≡ val (stream s fill) (i * 6) 6
  last i h = ap (λ (x : ℕ). x / 2 ^ fill * 2 ^ fill) (whole i (omega arith)) ∙ six-last s fill i h p.filled

  pub all : (size n : ℕ) (out : List ℕ) → n ≡ length s → Begun (stream s fill) size n out → Sixes (stream s fill) out
  all size n out e b = begun_all (stream s fill) size n out b (stream_lt s fill) (λ j l. six-past s fill j (omega arith))
