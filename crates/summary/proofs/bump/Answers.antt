-- `bump` meets its contract: a place beyond the end is left out. Assumes nothing.
use mathlib.Core.Path.{sym}
use lib.Seq.{set_out}
use Rattle.summary.specs.Tally.{bumped}
use Rattle.summary.proofs.bump.Goals as goal

pub returns-then-place-tally : goal.returns-then-place-tally
unfolding bumped
returns-then-place-tally c = rw c.one_more.ensures

pub returns-else-place-tally : goal.returns-else-place-tally
unfolding bumped
returns-else-place-tally c = sym (set_out _ _ _ c.if-place-tally.false)
