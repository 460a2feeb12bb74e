-- `unarmor`: what was checked is what spreading needs. Assumes nothing.
use mathlib.Core.Path.{refl, sym}
use Rattle.refusal.specs.Words.{taken}
use Rattle.armour.proofs.Laws.{unarmored-length}
use Rattle.armour.proofs.Answers.{taken_by, answered-by}
use Rattle.armour.proofs.unarmor.Goals as goal

pub invariant_of-armoured : goal.invariant_of-armoured
invariant_of-armoured c = record { spreads = (taken_by _ _ _ _ c.in_ok-need.ensures).0 }

pub spread-requires : goal.spread-requires
spread-requires c =
    let t = (taken_by _ _ _ _ c.in_ok-need.ensures).1 in
    (t.0, rw (sym t.0) at t.1)

pub returns : goal.returns
returns c =
    let t = (taken_by _ _ _ _ c.in_ok-need.ensures).1 in
    answered-by _ _ _ (taken _) (sym c.in_ok-need.ensures) refl (rw unarmored-length (rw t.0 at c.spread.ensures))
