-- `Output::put_byte` meets its contract. Assumes nothing.
use Rattle.std.proofs.Common.{rules}
use borrow.Author.Tests.{lt-ltb, le-ltb}
use Rattle.text_out.specs.Text.{put, put1}
use Rattle.text_out.proofs.Output.put_byte.Goals as goal

pub returns-then-self : goal.returns-then-self
unfolding put put1
returns-then-self c = record { same = search rules; is = rw (lt-ltb _ _ c.if-self.true) }

pub returns-else-self : goal.returns-else-self
unfolding put put1
returns-else-self c = record { same = search rules; is = rw (le-ltb _ _ c.if-self.false) }
