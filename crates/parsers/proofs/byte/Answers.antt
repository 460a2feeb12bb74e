-- `byte`: what stands at i, and 0 past the end. Assumes nothing.
use mathlib.Core.Path.{sym}
use lib.ListN.{get_or-eq_default}
use Rattle.parsers.proofs.byte.Goals as goal

pub returns-else-i-bytes : goal.returns-else-i-bytes
returns-else-i-bytes c = sym (get_or-eq_default c.args.bytes.now 0 c.if-i-bytes.false)
