-- `is_plain` meets its contract. Assumes nothing.
use mathlib.Core.Path.{refl}
use Rattle.refusal.specs.Words.{within}
use Rattle.sentence.specs.Other.{is_plain}
use Rattle.sentence.proofs.other.is_plain.Goals as goal

pub returns : goal.returns
unfolding is_plain within
returns c = refl
