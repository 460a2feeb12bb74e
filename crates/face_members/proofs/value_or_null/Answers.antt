-- `face_members::value_or_null` meets its contract. Assumes nothing.
use Rattle.std.proofs.Common.{rules}
use mathlib.Core.Path.{sym, ◌∙◌}
use borrow.Author.Tests.{ne_eqb}
use Rattle.face_members.proofs.value_or_null.Goals as goal

pub returns-then-known-eq1 : goal.returns-then-known-eq1
returns-then-known-eq1 c = record { same = search rules; is = rw (sym c.number_at-known.ensures ∙ c.if-known-eq1.true) c.put_value.ensures.is }

pub returns : goal.returns
returns c = record { same = search rules; is = rw (sym c.number_at-known.ensures, ne_eqb _ _ c.if-known-eq1.false) c.put_bytes.ensures.is }
