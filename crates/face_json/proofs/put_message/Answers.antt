-- `face_json::put_message` meets its contract. Assumes nothing.
use Rattle.std.proofs.Common.{rules}
use mathlib.Core.Path.{sym, ◌∙◌}
use Rattle.face_rows.specs.Code.{rows_in}
use Rattle.face_json.specs.Line.{message_line}
use native.Mathlib.Omega.{arith}
use borrow.Author.Tests.{ne_eqb}
use Rattle.face_json.proofs.put_message.Goals as goal

pub returns-in-1 : goal.returns-in-1
unfolding message_line rows_in
returns-in-1 c = record { same = search rules; is = rw (sym c.number_at-kind.ensures ∙ c.in-1.is) c.put_position.ensures.is }

pub returns-in-2 : goal.returns-in-2
unfolding message_line rows_in
returns-in-2 c = record { same = search rules; is = rw (sym c.number_at-kind.ensures ∙ c.in-2.is) c.put_part.ensures.is }

pub returns-in-3 : goal.returns-in-3
unfolding message_line rows_in
returns-in-3 c = record { same = search rules; is = rw (sym c.number_at-kind.ensures ∙ c.in-3.is) c.put_body.ensures.is }

pub returns-in_default : goal.returns-in_default
unfolding message_line rows_in
returns-in_default c = record {
  same = search rules;
  is = let n = c.number_at-kind.result in
      rw (sym c.number_at-kind.ensures, ne_eqb n 1 (λ i. omega arith), ne_eqb n 2 (λ i. omega arith), ne_eqb n 3 (λ i. omega arith)) c.put_rows.ensures.is;
}
