-- The laws of armour. Assumes nothing.
use Rattle.std.proofs.Common.{None}
use mathlib.Core.Logic.{⊎_elim}
use mathlib.Core.Path.{◌≡◌, refl, sym, ap, ◌∙◌}
use mathlib.Core.Bool.{Bool, true, false, ◌&&◌, ◌||◌}
use mathlib.Core.List.{List, [], ◌∷◌, ◌++◌, map}
use Prim.Native.Nat.{ℕ, zero, suc, ◌+◌, ◌-◌, ◌*◌, ◌/◌, ◌%◌, ◌^◌, ◌≤◌, ◌<◌}
use native.Mathlib.Nat.{not-suc-le-zero, le_of_suc-le-suc}
use native.Mathlib.Numerals.{add-one, one-add}
use lib.Bits.{bit_and, mask_lt}
use mir.Syntax.{w8}
use mir.Val.{Fits}
use lib.Dec.{ltb, leb, leb-suc-suc}
use lib.ListN.{length, get_or, set, drop, drop_of_length-le}
use lib.Seq.{drop-cons}
use native.Mathlib.Omega.{arith}
use borrow.Author.Tests.{lt-ltb, le-ltb, le-leb, lt-leb}
use Rattle.refusal.specs.Words.{pick, within}
use Rattle.refusal.proofs.Within.{in_range, below_range, above_range}
use Rattle.armour.specs.Armour.{meaning, the_true_type, letter, first_bad, stream, size, unarmored}
use Rattle.parsers.specs.Bits.{val, bit_at, pack}
use Rattle.parsers.proofs.Laws.{lt_or_le, length-pack, pack-set, bit_lt, cut_lt, val-digit, cut_gone, cut-whole, cut-last}

module _ (b : ℕ) where
  pub meaning_low : 48 ≤ b → b ≤ 87 → b - 48 ≡ meaning b
  unfolding meaning
  meaning_low p q = rw (in_range 48 87 b p q)

  pub meaning_high : 96 ≤ b → b ≤ 119 → b - 56 ≡ meaning b
  unfolding meaning
  meaning_high p q = rw (above_range 48 87 b (omega arith) (omega arith), in_range 96 119 b p q)

  pub meaning_none : within 48 87 b ≡ false → within 96 119 b ≡ false → 64 ≡ meaning b
  unfolding meaning
  meaning_none p q = rw (p, q)

-- an empty payload has no true type
pub no_type : (payload : List ℕ) → length payload ≡ 0 → None ≡ the_true_type payload
unfolding meaning within
no_type [] e = refl
no_type (b ∷ bs) e = absurd (omega arith)

-- a byte is below the two ranges, in one, between them or beyond
by_range : (P : Type 0) (b : ℕ) → (b < 48 → P) → (48 ≤ b → b ≤ 87 → P) → (88 ≤ b → b < 96 → P) → (96 ≤ b → b ≤ 119 → P) → (120 ≤ b → P) → P
by_range P b below low between high beyond =
    ⊎_elim below
    (λ l. ⊎_elim (λ m. low l (omega arith)) (λ m. ⊎_elim (between m) (λ k. ⊎_elim (λ j. high k (omega arith)) beyond (lt_or_le b 120)) (lt_or_le b 96))
    (lt_or_le b 88))
    (lt_or_le b 48)

module _ (b : ℕ) where
  none_below : b < 48 → 64 ≡ meaning b
  none_below l = meaning_none b (below_range 48 87 b l) (below_range 96 119 b (omega arith))

  none_between : 88 ≤ b → b < 96 → 64 ≡ meaning b
  none_between l m = meaning_none b (above_range 48 87 b (omega arith) (omega arith)) (below_range 96 119 b m)

  none_beyond : 120 ≤ b → 64 ≡ meaning b
  none_beyond l = meaning_none b (above_range 48 87 b (omega arith) (omega arith)) (above_range 96 119 b (omega arith) (omega arith))

  -- armour is a byte of one of the two ranges, and every other means 64
  pub armour_in : (P : Type 0) → meaning b < 64 → (48 ≤ b → b ≤ 87 → P) → (96 ≤ b → b ≤ 119 → P) → P
  armour_in P h low high =
      by_range P b (λ l. absurd (omega (arith, h, none_below l))) low (λ l m. absurd (omega (arith, h, none_between l m))) high
      (λ l. absurd (omega (arith, h, none_beyond l)))

  pub armour_none : 64 ≤ meaning b → 64 ≡ meaning b
  armour_none h =
      by_range (64 ≡ meaning b) b none_below (λ l m. absurd (omega (arith, h, meaning_low b l m))) none_between
      (λ l m. absurd (omega (arith, h, meaning_high b l m))) none_beyond

  pub armour-is : (within 48 87 b || within 96 119 b) ≡ ltb (meaning b) 64
  armour-is =
      by_range ((within 48 87 b || within 96 119 b) ≡ ltb (meaning b) 64) b
      (λ l. rw (below_range 48 87 b l, below_range 96 119 b (omega arith), ← none_below l))
      (λ l m. rw (in_range 48 87 b l m, ← meaning_low b l m) (sym (lt-ltb (b - 48) 64 (omega arith))))
      (λ l m. rw (above_range 48 87 b (omega arith) (omega arith), below_range 96 119 b m, ← none_between l m))
      (λ l m. rw (above_range 48 87 b (omega arith) (omega arith), in_range 96 119 b l m, ← meaning_high b l m) (sym (lt-ltb (b - 56) 64 (omega arith))))
      (λ l. rw (above_range 48 87 b (omega arith) (omega arith), above_range 96 119 b (omega arith) (omega arith), ← none_beyond l))

-- whether the first bytes are all armour is told by each of them in turn
bad_beyond : (s : List ℕ) (i : ℕ) → i < length s → (leb i (first_bad s) && ltb (meaning (get_or s i 0)) 64) ≡ leb (suc i) (first_bad s)
bad_beyond [] i h = absurd (omega arith)
bad_beyond (b ∷ s) zero h = go (ltb (meaning b) 64)
  where
    go : (t : Bool) → (leb zero (pick t (suc (first_bad s)) 0) && t) ≡ leb (suc zero) (pick t (suc (first_bad s)) 0)
    go true = rw (le-leb zero (suc (first_bad s)) (omega arith), le-leb (suc zero) (suc (first_bad s)) (omega arith))
    go false = refl
bad_beyond (b ∷ s) (suc i) h = go (ltb (meaning b) 64) (bad_beyond s i (omega arith))
  where
    go : (t : Bool) → (leb i (first_bad s) && ltb (meaning (get_or s i 0)) 64) ≡ leb (suc i) (first_bad s)
        → (leb (suc i) (pick t (suc (first_bad s)) 0) && ltb (meaning (get_or s i 0)) 64) ≡ leb (suc (suc i)) (pick t (suc (first_bad s)) 0)
    go true more = rw (leb-suc-suc i (first_bad s), leb-suc-suc (suc i) (first_bad s)) more
    go false more = rw (lt-leb (suc i) 0 (omega arith), lt-leb (suc (suc i)) 0 (omega arith))

pub good_next : (s : List ℕ) (i : ℕ) → i < length s → (leb i (first_bad s) && ltb (meaning (get_or s i 0)) 64) ≡ leb (i + 1) (first_bad s)
good_next s i h = rw add-one (bad_beyond s i h)

-- the scan: at the end, at a byte that is no armour, at one that is
module _ (s : List ℕ) (i : ℕ) where
  pub bad-end : length s ≤ i → first_bad (drop i s) ≡ 0
  bad-end h = rw (drop_of_length-le s h)

  pub bad-here : i < length s → 64 ≤ meaning (get_or s i 0) → first_bad (drop i s) ≡ 0
  bad-here h b = rw (drop-cons s i 0 h, le-ltb (meaning (get_or s i 0)) 64 b)

  pub bad-next : i < length s → meaning (get_or s i 0) < 64 → first_bad (drop i s) ≡ 1 + first_bad (drop (i + 1) s)
  bad-next h b = rw (drop-cons s i 0 h, lt-ltb (meaning (get_or s i 0)) 64 b, add-one i) (sym (one-add _))

-- eight bits fit a byte
pub masked_fits : (x : ℕ) → Fits w8 (bit_and x 255)
masked_fits x = record { fits = mask_lt x 8 }

-- ---- the stream of a payload, by its characters
pub stream_lt : (s : List ℕ) (fill i : ℕ) → stream s fill i < 2
unfolding stream
stream_lt s fill = cut_lt _ (bit_at 6 (map meaning s)) (bit_lt 6 (map meaning s))

pub get_d_map : (g : ℕ → ℕ) (s : List ℕ) (i : ℕ) → i < length s → get_or (map g s) i 0 ≡ g (get_or s i 0)
get_d_map g [] i h = absurd (not-suc-le-zero h)
get_d_map g (b ∷ s) zero h = refl
get_d_map g (b ∷ s) (suc i) h = get_d_map g s i (le_of_suc-le-suc h)

module _ (s : List ℕ) (fill i : ℕ) where
  raw : i < length s → val (bit_at 6 (map meaning s)) (i * 6) 6 ≡ meaning (get_or s i 0) % 2 ^ 6
  raw h = val-digit 6 (map meaning s) i (i * 6) refl ∙ ap (λ (x : ℕ). x % 2 ^ 6) (get_d_map meaning s i h)

  pub six-past : length s ≤ i → 0 ≡ val (stream s fill) (i * 6) 6
  unfolding stream
  six-past h = sym (cut_gone (length s * 6 - fill) (bit_at 6 (map meaning s)) (i * 6) 6 (omega arith))

  pub six_inner : i + 1 < length s → fill ≤ 5 → meaning (get_or s i 0) % 2 ^ 6 ≡ val (stream s fill) (i * 6) 6
  unfolding stream
  six_inner h l = sym (cut-whole (length s * 6 - fill) (bit_at 6 (map meaning s)) (i * 6) 6 (omega arith) ∙ raw (omega arith))

  pub six-last : i + 1 ≡ length s → fill ≤ 5 → meaning (get_or s i 0) % 2 ^ 6 / 2 ^ fill * 2 ^ fill ≡ val (stream s fill) (i * 6) 6
  unfolding stream
  six-last h l =
      sym (cut-last (length s * 6 - fill) (bit_at 6 (map meaning s)) (bit_lt 6 (map meaning s)) (i * 6) 6 fill (omega arith) (omega arith)
      ∙ ap (λ (x : ℕ). x / 2 ^ fill * 2 ^ fill) (raw (omega arith)))

pub unarmored-length : (s : List ℕ) (fill : ℕ) → length (unarmored s fill) ≡ size (length s)
unarmored-length s fill = length-pack 8 (size (length s)) (stream s fill)

-- every six-bit value has a character, and every character of armour is that of its value
pub meaning-letter : (v : ℕ) → v < 64 → meaning (letter v) ≡ v
meaning-letter v h =
    ⊎_elim
    (λ l. rw (lt-ltb v 40 l) (omega (arith, meaning_low (v + 48) (omega arith) (omega arith))))
    (λ l. rw (le-ltb v 40 l) (omega (arith, meaning_high (v + 56) (omega arith) (omega arith))))
    (lt_or_le v 40)

pub letter-meaning : (b : ℕ) → meaning b < 64 → letter (meaning b) ≡ b
letter-meaning b h =
    armour_in b (letter (meaning b) ≡ b) h
    (λ l m. rw (← meaning_low b l m, lt-ltb (b - 48) 40 (omega arith)) (omega arith))
    (λ l m. rw (← meaning_high b l m, le-ltb (b - 56) 40 (omega arith)) (omega arith))

-- three bytes more, stored where those that stand first end
pub pack_three : (f : ℕ → ℕ) (k : ℕ) (d out : List ℕ) (x y z : ℕ) → (k + 1) * 3 ≤ length d → out ≡ pack 8 (k * 3) f ++ drop (k * 3) d
    → x ≡ val f (k * 3 * 8) 8 → y ≡ val f ((k * 3 + 1) * 8) 8 → z ≡ val f ((k * 3 + 2) * 8) 8
    → set (set (set out (k * 3) x) (k * 3 + 1) y) (k * 3 + 2) z ≡ pack 8 ((k + 1) * 3) f ++ drop ((k + 1) * 3) d
pack_three f k d out x y z h e p q r =
    let two : k * 3 + 2 ≡ k * 3 + 1 + 1 = omega arith in
    let three : (k + 1) * 3 ≡ k * 3 + 1 + 1 + 1 = omega arith in
    rw (e, p, pack-set 8 (k * 3) f d (omega arith), q, pack-set 8 (k * 3 + 1) f d (omega arith), r, two, pack-set 8 (k * 3 + 1 + 1) f d (omega arith), three)
