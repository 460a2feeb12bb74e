-- NOTHING IS LOST: what became of a line, and the record after it, are told by the join on paper. Assumes nothing.
use mathlib.Core.Path.{◌≡◌, refl, sym, ap, ◌∙◌}
use Rattle.std.specs.Prelude.{Result, Ok, Err}
use Rattle.refusal.specs.Words.{Told}
use Rattle.refusal.specs.declared.Refusal.{Refusal}
use Rattle.refusal.proofs.Unique.{untold, untold_told}
use Rattle.reassembly.specs.Record.{Join, part_in, join_in}
use Rattle.reassembly.specs.declared.Part.{Part}
use Rattle.reassembly.specs.declared.Joined.{Joined}

abbrev outcome_by : Told Part → Result Part Refusal
outcome_by = untold Ok Err

outcome_back : (o : Result Part Refusal) → outcome_by (part_in o) ≡ o
outcome_back (Ok part) = refl
outcome_back (Err r) = untold_told {A = Part} Ok Err r

pub same_part : (o p : Result Part Refusal) → part_in o ≡ part_in p → o ≡ p
same_part o p e = sym (outcome_back o) ∙ ap outcome_by e ∙ outcome_back p

abbrev joined_by : Join → Joined
joined_by j = record { state = j.after; outcome = outcome_by j.told }

joined_back : (j : Joined) → joined_by (join_in j) ≡ j
joined_back j = rw (outcome_back j.outcome)

pub same_joined : (a b : Joined) → join_in a ≡ join_in b → a ≡ b
same_joined a b e = sym (joined_back a) ∙ ap joined_by e ∙ joined_back b
