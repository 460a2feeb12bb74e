-- `spread`: an array of zeros, long enough. Assumes nothing.
use mathlib.Core.Path.{refl}
use native.Mathlib.Omega.{arith}
use borrow.Author.Rules.{rules}
use Rattle.armour.proofs.Armoured.spread.Goals as goal

pub spread_by-requires : goal.spread_by-requires
spread_by-requires c = (record { fits = omega arith; fours = omega arith; zeros = refl }, search rules)

pub spread_by-requires-2 : goal.spread_by-requires-2
spread_by-requires-2 c = (record { fits = omega (arith, c.args.self.now.spreads.few); fours = omega (arith, c.requires.0, c.args.self.now.spreads.few); zeros = refl }, search rules)
