-- `sixbit_to_ascii`: a value below 32 gets 64 added. Assumes nothing.
use borrow.Author.Tests.{lt-ltb, le-ltb}
use Rattle.parsers.proofs.sixbit_to_ascii.Goals as goal

pub returns-then-v-lt32 : goal.returns-then-v-lt32
returns-then-v-lt32 c = rw (lt-ltb _ 32 c.if-v-lt32.true)

pub returns-else-v-lt32 : goal.returns-else-v-lt32
returns-else-v-lt32 c = rw (le-ltb _ 32 c.if-v-lt32.false)
