-- `sweep`: what is left, onto the sum, gives the same from each place passed; each byte tells whether a star stands no later. Assumes nothing.
use mathlib.Core.Path.{◌≡◌}
use lib.Dec.{ltb}
use lib.ListN.{drop}
use Rattle.scan.specs.Scan.{star, before, xor_of}
use Rattle.scan.proofs.sweep.Given as goal

abbrev pub invariant-loop-b : goal.invariant-loop-b
invariant-loop-b l = (xor_of l.sum (drop l.b-index l.part) ≡ xor_of 0 l.part) × (l.starred ≡ ltb (before star l.part) l.b-index)
