-- A request within the writer's limits is a message that can be sent, and each of its lines can be written. Assumes nothing.
use mathlib.Core.Path.{◌≡◌, refl}
use mathlib.Core.Bool.{Bool, true, false, not, ◌||◌, true≢false, and-eq-true_iff}
use mathlib.Core.List.{List, [], ◌∷◌}
use Prim.Native.Nat.{ℕ, zero, suc, ◌-◌, ◌*◌, ◌≤◌}
use native.Mathlib.Omega.{arith}
use borrow.Author.Tests.{ltb-false, leb-true, eqb-false, not-false}
use lib.Dec.{ltb, leb, eqb}
use lib.ListN.{length, take, drop, length-take, length-drop}
use Rattle.std.specs.Prelude.{Option, Some, None}
use Rattle.refusal.specs.Words.{pick, within, is_empty}
use Rattle.scan.specs.Scan.{All}
use Rattle.sentence.specs.Written.{talker_text, report_text, AOrB, OneDigit, Writable}
use Rattle.writer.specs.Message.{Message, Sendable, lines_in, parts_of}
use Rattle.writer.specs.Writer.{bad_count, other_channel, outside, message_of}
use Rattle.writer.specs.declared.Request.{Request}
use Rattle.writer.proofs.Armoured.{length-armoured, armoured_range}

-- where no condition holds, neither the first does nor any other
neither : (a b : Bool) → (a || b) ≡ false → (a ≡ false) × (b ≡ false)
neither true b e = absurd (true≢false e)
neither false b e = (refl, e)

range_in : (lo hi b : ℕ) → within lo hi b ≡ true → (lo ≤ b) × (b ≤ hi)
unfolding within
range_in lo hi b e = let t = (and-eq-true_iff (leb lo b) (leb b hi)).0 e in (leb-true lo b t.0, leb-true b hi t.1)

channel_in_lem : (c : Option ℕ) → other_channel c ≡ false → AOrB c
channel_in_lem None e = tt
channel_in_lem (Some b) e = range_in 65 66 b (not-false (within 65 66 b) e)

module _ (q : Request) (d : List ℕ) (inside : outside q d ≡ false) where
  pub record Limits : Type 0 where
    pub count : bad_count q.count d ≡ false
    pub talker : is_empty (talker_text q.talker_id) ≡ false
    pub report : is_empty (report_text q.report_type) ≡ false
    pub channel : other_channel q.channel ≡ false
    pub number : ltb 9 q.message_id ≡ false

  pub limits : Limits
  unfolding outside
  limits =
      let a = neither (bad_count q.count d) _ inside in
      let b = neither (is_empty (talker_text q.talker_id)) _ a.1 in
      let c = neither (is_empty (report_text q.report_type)) _ b.1 in
      let e = neither (other_channel q.channel) _ c.1 in
      record { count = a.0; talker = b.0; report = c.0; channel = e.0; number = e.1 }

  -- "Bits 1 to 2304, packed, in enough bytes"
  pub count_range : (1 ≤ q.count) × (q.count ≤ 2304)
  count_range = range_in 1 2304 q.count (not-false (within 1 2304 q.count) (neither (not (within 1 2304 q.count)) _ limits.count).0)

  pub enough : q.count ≤ length d * 8
  enough = ltb-false (length d * 8) q.count (neither (not (within 1 2304 q.count)) _ limits.count).1

  pub sendable : Sendable (message_of q d)
  sendable = record {
    known_talker = λ e. eqb-false (length (talker_text q.talker_id)) 0 limits.talker (rw e);
    known_report = λ e. eqb-false (length (report_text q.report_type)) 0 limits.report (rw e);
    channel-letter = channel_in_lem q.channel limits.channel;
    digit = ltb-false 9 q.message_id limits.number;
    armour = armoured_range d q.count;
    some-payload = omega (arith, length-armoured d q.count, count_range.0);
    fits = omega (arith, length-armoured d q.count, count_range.1);
    fill-small = omega arith;
  }

-- ---- the lines of a message that can be sent

all_drop : (P : ℕ → Type 0) (n : ℕ) (xs : List ℕ) → All P xs → All P (drop n xs)
all_drop P zero xs h = h
all_drop P (suc n) [] h = tt
all_drop P (suc n) (x ∷ xs) h = all_drop P n xs h.1

all_take : (P : ℕ → Type 0) (n : ℕ) (xs : List ℕ) → All P xs → All P (take n xs)
all_take P zero xs h = tt
all_take P (suc n) [] h = tt
all_take P (suc n) (x ∷ xs) h = (h.0, all_take P n xs h.1)

one-digit : (b : Bool) (n : ℕ) → n ≤ 9 → OneDigit (pick b None (Some n))
one-digit true n h = tt
one-digit false n h = h

pick_le : (b : Bool) (n m : ℕ) → n ≤ m → pick b n 0 ≤ m
pick_le true n m h = h
pick_le false n m h = omega arith

module _ (m : Message) (s : Sendable m) where
  -- 384 characters are 7 lines
  pub few_lines : lines_in m ≤ 7
  unfolding lines_in
  few_lines = omega (arith, s.fits)

  pub writable : (i : ℕ) → 1 ≤ i → i ≤ lines_in m → Writable (parts_of m i)
  unfolding parts_of lines_in
  writable i h l = record {
    known_talker = s.known_talker;
    known_report = s.known_report;
    total-digit = omega (arith, few_lines);
    number-digit = omega (arith, few_lines);
    id-digit = one-digit (eqb (lines_in m) 1) m.number s.digit;
    channel-letter = s.channel-letter;
    armour = all_take _ 60 (drop (60 * (i - 1)) m.payload) (all_drop _ (60 * (i - 1)) m.payload s.armour);
    some-payload = simp (length-take, length-drop) (omega arith);
    fill-small = pick_le (eqb i (lines_in m)) m.fill 5 s.fill-small;
  }
