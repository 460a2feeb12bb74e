-- `scan::capital_digit` meets its contract. Assumes nothing.
use native.Mathlib.Omega.{arith}
use borrow.Author.Tests.{lt-ltb, le-ltb}
use Rattle.scan.specs.Scan.{capital}
use Rattle.scan.proofs.capital_digit.Goals as goal

pub returns-then-d-lt10 : goal.returns-then-d-lt10
unfolding capital
returns-then-d-lt10 c = rw (lt-ltb _ 10 c.if-d-lt10.true)

pub returns-else-d-lt10 : goal.returns-else-d-lt10
unfolding capital
returns-else-d-lt10 c = rw (le-ltb _ 10 c.if-d-lt10.false) (omega arith)
