-- The promise of a message of type 15 has one outcome, which is the answer of its definition. Assumes nothing.
use mathlib.Core.Bool.{Bool, true, false, not, ◌&&◌, ◌||◌}
use mathlib.Core.List.{List, [], ◌∷◌}
use mathlib.Core.Path.{◌≡◌, refl, sym, ap, ◌∙◌}
use Prim.Native.Nat.{ℕ}
use Rattle.std.specs.Prelude.{Result, Ok, Err}
use Rattle.refusal.specs.Words.{pick, Told, taken, check, checked}
use Rattle.refusal.specs.declared.Refusal.{Refusal}
use Rattle.refusal.proofs.Unique.{untold, untold_told}
use Rattle.interrogation.specs.Table.{table, from}
use Rattle.interrogation.specs.Interrogation.{short, remains, station_at, station_end, the_head_in, station_in, tells_of, read_by, too_short}
use Rattle.interrogation.specs.Interrogation.{interrogated_of, interrogated_in, asked_in, answer_of, Interrogates}
use Rattle.interrogation.specs.declared.Interrogation.{Interrogation}

module _ (d : List ℕ) where
  -- where a second station starts
  abbrev next : ℕ
  next = station_end table d 40

  -- the answer, by the three questions of the rule
  abbrev by : Bool → Bool → Bool → Result Interrogation Refusal
  by x y z =
      pick x
      (pick y (pick z (tells_of table d (station_at table d 40 ∷ station_at table d next ∷ [])) short) (tells_of table d (station_at table d 40 ∷ [])))
      short

  answers_by : (x y z : Bool) → interrogated_in (by x y z) ≡ checked (check (not x || (y && not z)) 9 [] ∷ []) (taken (asked_in (by x y z)))
  answers_by false y z = refl
  answers_by true false z = refl
  answers_by true true false = refl
  answers_by true true true = refl

  -- the answer on paper
  pub answers : interrogated_in (interrogated_of d) ≡ answer_of d
  unfolding read_by too_short
  answers =
      answers_by (the_head_in table d && station_in table d 40) (remains d (from next table.station))
      (station_in table d next && remains d (from (station_end table d next) table.closing))

abbrev interrogated_by : Told Interrogation → Result Interrogation Refusal
interrogated_by = untold Ok Err

interrogated_back : (a : Result Interrogation Refusal) → interrogated_by (interrogated_in a) ≡ a
interrogated_back (Ok i) = refl
interrogated_back (Err r) = untold_told {A = Interrogation} Ok Err r

module _ (d : List ℕ) (r : Result Interrogation Refusal) where
  pub promised : r ≡ interrogated_of d → Interrogates d r
  promised e = ap interrogated_in e ∙ answers d

  -- the law for callers
  pub is-answer : Interrogates d r → r ≡ interrogated_of d
  is-answer p = sym (interrogated_back r) ∙ ap interrogated_by (p ∙ sym (answers d)) ∙ interrogated_back (interrogated_of d)

pub unique : (d : List ℕ) (a b : Result Interrogation Refusal) → Interrogates d a → Interrogates d b → a ≡ b
unique d a b p q = is-answer d a p ∙ sym (is-answer d b q)
