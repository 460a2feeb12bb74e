-- `text_out::spell` meets its contract: the digits of what is left and those that stand last are the whole. Assumes nothing.
use Prim.Native.Nat.{◌^◌, ◌<◌, ◌≤◌}
use mathlib.Core.Path.{◌≡◌}
use mathlib.Core.List.{◌++◌}
use lib.ListN.{length, drop}
use Rattle.text_out.specs.Digits.{decimal_in}
use Rattle.text_out.proofs.spell.Given as goal

abbrev pub invariant-loop-rest : goal.invariant-loop-rest
invariant-loop-rest l = (decimal_in l.i l.rest ++ drop l.i l.digits ≡ decimal_in 20 l.n) × (l.rest < 10 ^ l.i) × (0 < l.i) × (l.i ≤ 20) × (length l.digits ≡ 20)

abbrev pub decreases-loop-rest : goal.decreases-loop-rest
decreases-loop-rest l = l.rest
