-- `face_members::put_flag` meets its contract. Assumes nothing.
use Rattle.std.proofs.Common.{rules}
use mathlib.Core.Path.{sym, ◌∙◌}
use borrow.Author.Tests.{ne_eqb}
use Rattle.face_members.proofs.put_flag.Goals as goal

pub returns-then-n-eq1 : goal.returns-then-n-eq1
returns-then-n-eq1 c = record { same = search rules; is = rw (sym c.number_at-n.ensures ∙ c.if-n-eq1.true) c.put_bytes.ensures.is }

pub returns : goal.returns
returns c = record { same = search rules; is = rw (sym c.number_at-n.ensures, ne_eqb _ _ c.if-n-eq1.false) c.put_bytes-2.ensures.is }
