-- `put_sixes`: the first i characters stand there, and zeros after them; the last has the fill cleared. Assumes nothing.
use lib.ListN.{length}
use Rattle.armour.specs.Armour.{stream}
use Rattle.armour.proofs.Sixes.{Begun}
use Rattle.armour.proofs.Armoured.put_sixes.Given as goal

abbrev pub invariant-loop-i : goal.invariant-loop-i
invariant-loop-i l = Begun (stream l.self.payload.now l.self.fill) (length l.initial.out) l.i l.out
