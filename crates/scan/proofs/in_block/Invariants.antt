-- `in_block`: each byte in turn tells whether the first one sought stands no later. Assumes nothing.
use mathlib.Core.Path.{◌≡◌}
use lib.Dec.{ltb}
use Rattle.scan.specs.Scan.{before}
use Rattle.scan.proofs.in_block.Given as goal

abbrev pub invariant-loop-x : goal.invariant-loop-x
invariant-loop-x l = l.found ≡ ltb (before l.b l.part) l.x-index
