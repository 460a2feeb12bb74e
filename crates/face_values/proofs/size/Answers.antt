-- `face_values::size` meets its contract. Assumes nothing.
use native.Mathlib.Omega.{arith}
use borrow.Author.Tests.{lt-ltb, le-ltb}
use Rattle.face_values.proofs.size.Goals as goal

pub returns-then-n-lt9223372036854775808 : goal.returns-then-n-lt9223372036854775808
returns-then-n-lt9223372036854775808 c = rw (lt-ltb _ _ c.if-n-lt9223372036854775808.true)

pub returns : goal.returns
returns c = rw (le-ltb _ _ c.if-n-lt9223372036854775808.false) (omega arith)
