-- The P cases hold: the definitions, computed over the whole table, give the table. Assumes nothing.
use mathlib.Core.Path.{◌≡◌, refl}
use mathlib.Core.List.{map}
use Rattle.parsers.specs.Bits.{val, bit_at, cut, pack}
use Rattle.refusal.specs.Words.{within}
use Rattle.armour.specs.Armour.{meaning, stream}
use Rattle.armour.specs.Unarmor.{bad_fill, answer_of}
use Rattle.armour.specs.Soundings.{run, soundings}

pub all_hold : map run soundings ≡ soundings
unfolding val bit_at cut pack within meaning stream bad_fill answer_of
all_hold = refl
