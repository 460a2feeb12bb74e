-- The promise of decoding alone has one outcome, and its refusals are given exactly when they should be. Assumes nothing.
use mathlib.Core.Logic.{◌↔◌}
use mathlib.Core.Path.{◌≡◌, refl, sym, ap, subst, ◌∙◌}
use mathlib.Core.Bool.{Bool, true, false, not, ◌||◌, true≢false}
use mathlib.Core.List.{List, [], ◌∷◌}
use Prim.Native.Nat.{ℕ}
use native.Mathlib.Omega.{arith}
use borrow.Author.Tests.{eqb-true, ne_eqb}
use lib.Dec.{eqb}
use Rattle.std.specs.Prelude.{Result, Ok, Err}
use Rattle.refusal.specs.Words.{pick, within, is_empty, Told, taken, refused, check, checked}
use Rattle.refusal.specs.Order.{First}
use Rattle.refusal.specs.declared.Refusal.{Refusal}
use Rattle.refusal.proofs.Order.{exactly}
use Rattle.refusal.proofs.Unique.{untold, untold_told}
use Rattle.refusal.proofs.Within.{range_in, below_range}
use Rattle.static_data_report.specs.StaticData.{static_data_of}
use Rattle.interrogation.specs.Interrogation.{interrogated_of}
use Rattle.messages.specs.Messages.{Decoding, no_message, parse_in, decoded_in, type_of, other_type, unknown_type, ends_position, ends_static, ends_asked}
use Rattle.messages.specs.Messages.{ends_inside, decode_checks, ordered_checks, decoded_of}
use Rattle.messages.specs.declared.Message.{Message}

-- ---- nothing is lost on paper
abbrev outcome_by : Told Unit → Result Unit Refusal
outcome_by = untold Ok Err

-- the outcome without what was read
abbrev pub outcome_of : {A : Type 0} → Result A Refusal → Result Unit Refusal
outcome_of (Ok a) = Ok tt
outcome_of (Err r) = Err r

outcome_back : {A : Type 0} (o : Result A Refusal) → outcome_by (parse_in o) ≡ outcome_of o
outcome_back (Ok a) = refl
outcome_back (Err r) = untold_told {A = Unit} Ok Err r

-- two outcomes that tell the same, whatever the message
pub same_parse : {A : Type 0} (o p : Result A Refusal) → parse_in o ≡ parse_in p → outcome_of o ≡ outcome_of p
same_parse o p e = sym (outcome_back o) ∙ ap outcome_by e ∙ outcome_back p

abbrev decoded_by : Decoding → Result Message Refusal
decoded_by d = untold (λ _. Ok d.message) Err d.told

decoded_back : (d : Result Message Refusal) → decoded_by (decoded_in d) ≡ d
decoded_back (Ok m) = refl
decoded_back (Err r) = untold_told {A = Unit} (λ _. Ok no_message) Err r

pub same_decoded : (a b : Result Message Refusal) → decoded_in a ≡ decoded_in b → a ≡ b
same_decoded a b e = sym (decoded_back a) ∙ ap decoded_by e ∙ decoded_back b

-- ---- the order. A type that has a needed field is neither of 10 nor of 11
module _ (k : ℕ) where
  position-read : within 1 3 k ≡ true → other_type k ≡ false
  position-read e =
      let r = range_in 1 3 k e in
      rw (below_range 4 14 k (omega arith), below_range 16 21 k (omega arith), ne_eqb k 27 (λ n. omega arith))

  asked-read : k ≡ 15 → other_type k ≡ false
  unfolding within
  asked-read e = rw e

  static_read : k ≡ 24 → other_type k ≡ false
  unfolding within
  static_read e = rw e

  read-types : (a b c x y z o : Bool) → (a ≡ true → o ≡ false) → (b ≡ true → o ≡ false) → (c ≡ true → o ≡ false)
      → pick a x (pick b y (pick c z false)) ≡ true → (o ≡ false) × (pick a false (pick b false (pick c false (not o))) ≡ false)
  read-types true b c x y z o p q r e = (p refl, refl)
  read-types false true c x y z o p q r e = (q refl, refl)
  read-types false false true x y z o p q r e = (r refl, refl)
  read-types false false false x y z o p q r e = absurd (true≢false (sym e))

  ends_read : (d : List ℕ) → ends_inside k d ≡ true → (other_type k ≡ false) × (unknown_type k ≡ false)
  unfolding ends_inside
  ends_read d =
      read-types (within 1 3 k) (eqb k 15) (eqb k 24) (ends_position d) (ends_asked (interrogated_of d))
      (ends_static (static_data_of d)) (other_type k) position-read (λ e. asked-read (eqb-true k 15 e)) (λ e. static_read (eqb-true k 24 e))

-- "9 if empty, then 10 or 11, then 9": the one list and document 01's tell the same
pub in_order : {A : Type 0} (d : List ℕ) (t : Told A) → checked (decode_checks d) t ≡ checked (ordered_checks d) t
in_order {A} d t = go (is_empty d) (ends_inside k d) (other_type k) (unknown_type k) (ends_read k d) where
  k : ℕ
  k = type_of d

  go : (n e o u : Bool) → (e ≡ true → (o ≡ false) × (u ≡ false))
      → checked (check (n || e) 9 [] ∷ check o 10 (k ∷ []) ∷ check u 11 (k ∷ []) ∷ []) t
      ≡ checked (check n 9 [] ∷ check o 10 (k ∷ []) ∷ check u 11 (k ∷ []) ∷ check e 9 [] ∷ []) t
  go true e o u h = refl
  go false true o u h = rw ((h refl).0, (h refl).1)
  go false false o u h = refl

-- ---- "A refusal is given exactly when its condition holds .. and none earlier does."
module _ (d : List ℕ) (n : ℕ) (values : List ℕ) where
  ordered_told : (decoded_of d).told ≡ checked (ordered_checks d) (taken tt)
  unfolding decoded_of
  ordered_told = in_order d (taken tt)

  pub refused_exactly : ((decoded_of d).told ≡ refused n values) ↔ First (ordered_checks d) n values
  refused_exactly =
      subst (λ (t : Told Unit). (t ≡ refused n values) ↔ First (ordered_checks d) n values) (sym ordered_told) (exactly (ordered_checks d) tt n values)
