-- `face_values::put_shown` meets its contract. Assumes nothing.
use Rattle.std.proofs.Common.{rules}
use borrow.Author.Tests.{eq-eqb, ne_eqb}
use Rattle.face_values.specs.Quoted.{shown_in}
use Rattle.face_values.proofs.put_shown.Goals as goal

pub returns-then-s-eq0 : goal.returns-then-s-eq0
unfolding shown_in
returns-then-s-eq0 c = record { same = search rules; is = rw (eq-eqb _ 0 c.if-s-eq0.true) c.put_byte.ensures.is }

pub returns : goal.returns
unfolding shown_in
returns c = record { same = search rules; is = rw (ne_eqb _ 0 c.if-s-eq0.false) c.put_hex.ensures.is }
