-- `face_members::unless_null` meets its contract. Assumes nothing.
use Rattle.std.proofs.Common.{rules}
use mathlib.Core.Path.{sym}
use borrow.Author.Tests.{eq-eqb, ne_eqb}
use Rattle.face_members.proofs.unless_null.Goals as goal

pub returns-then-n-none : goal.returns-then-n-none
returns-then-n-none c = record { same = search rules; is = rw (sym c.number_at-n.ensures, eq-eqb _ _ c.if-n-none.true) c.put_bytes.ensures.is }

pub returns : goal.returns
returns c = record { same = search rules; is = rw (sym c.number_at-n.ensures, ne_eqb _ _ c.if-n-none.false) c.put_decimal.ensures.is }
