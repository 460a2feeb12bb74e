-- `navigation::degrees` meets its contract: the two parts are floats exactly, and their sum is the integer rounded once. Assumes nothing.
use mathlib.Core.Path.{sym, subst}
use lib.IntN.{ℤ, pos}
use lib.Dec.{T, lit<}
use lib.Signed.{quot_z}
use lib.Ieee.{binary32, in_float}
use mir.Syntax.{w32}
use mir.Val.{SFits}
use mir.Facts.{to_z-of_z}
use Rattle.navigation.proofs.Constants.{two_to_twelve, six_hundred_thousand}
use Rattle.navigation.proofs.Parts.{parts, quot_fits, high_read, low_read, high_in, low_in}
use Rattle.navigation.proofs.degrees.Goals as goal

pub nonzero_div-high : goal.nonzero_div-high
nonzero_div-high c = (lit< tt, subst (λ (z : ℤ). SFits w32 (quot_z z (pos 4096))) (sym (to_z-of_z c.ranges.raw)) (quot_fits c.ranges.raw))

pub nonzero_rem-low : goal.nonzero_rem-low
nonzero_rem-low c = (lit< tt, subst (λ (z : ℤ). SFits w32 (quot_z z (pos 4096))) (sym (to_z-of_z c.ranges.raw)) (quot_fits c.ranges.raw))

pub int_to_float-result : goal.int_to_float-result
int_to_float-result c = subst (λ (z : ℤ). T (in_float binary32 z)) (sym (high_read c.ranges.raw)) (high_in c.args.raw c.ranges.raw.sfits)

pub int_to_float-result-2 : goal.int_to_float-result-2
int_to_float-result-2 c = subst (λ (z : ℤ). T (in_float binary32 z)) (sym (low_read c.ranges.raw)) (low_in c.args.raw)

pub returns : goal.returns
returns c = cc (high_read c.ranges.raw, low_read c.ranges.raw, two_to_twelve, six_hundred_thousand, parts c.args.raw c.ranges.raw.sfits)
