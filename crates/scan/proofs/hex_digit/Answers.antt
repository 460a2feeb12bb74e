-- `hex_digit` meets its contract: each way through the ranges. Assumes nothing.
use native.Mathlib.Omega.{arith}
use Rattle.refusal.proofs.Within.{in_range, below_range, above_range}
use Rattle.scan.specs.Scan.{hex_of}
use Rattle.scan.proofs.hex_digit.Goals as goal

pub returns-in-48-to-57 : goal.returns-in-48-to-57
unfolding hex_of
returns-in-48-to-57 c = rw (in_range 48 57 c.args.b (omega arith) (omega arith))

pub returns-in-65-to-70 : goal.returns-in-65-to-70
unfolding hex_of
returns-in-65-to-70 c = rw (above_range 48 57 c.args.b (omega arith) (omega arith), in_range 65 70 c.args.b (omega arith) (omega arith))

pub returns-in-97-to-102 : goal.returns-in-97-to-102
unfolding hex_of
returns-in-97-to-102 c = rw (above_range 48 57 c.args.b (omega arith) (omega arith), above_range 65 70 c.args.b (omega arith) (omega arith), in_range 97 102 c.args.b (omega arith) (omega arith))

pub returns-in_default : goal.returns-in_default
unfolding hex_of
returns-in_default c = rw (below_range 48 57 c.args.b (omega arith), below_range 65 70 c.args.b (omega arith), below_range 97 102 c.args.b (omega arith))

pub returns-in_default-2 : goal.returns-in_default-2
unfolding hex_of
returns-in_default-2 c = rw (above_range 48 57 c.args.b (omega arith) (omega arith), below_range 65 70 c.args.b (omega arith), below_range 97 102 c.args.b (omega arith))

pub returns-in_default-3 : goal.returns-in_default-3
unfolding hex_of
returns-in_default-3 c = rw (above_range 48 57 c.args.b (omega arith) (omega arith), above_range 65 70 c.args.b (omega arith) (omega arith), below_range 97 102 c.args.b (omega arith))

pub returns-in_default-4 : goal.returns-in_default-4
unfolding hex_of
returns-in_default-4 c = rw (above_range 48 57 c.args.b (omega arith) (omega arith), above_range 65 70 c.args.b (omega arith) (omega arith), above_range 97 102 c.args.b (omega arith) (omega arith))
