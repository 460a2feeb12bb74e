-- `face_json::put_part` meets its contract. Assumes nothing.
use Rattle.std.proofs.Common.{rules}
use mathlib.Core.Path.{sym, ◌∙◌}
use Rattle.face_rows.specs.Code.{rows_in}
use native.Mathlib.Omega.{arith}
use borrow.Author.Tests.{ne_eqb}
use Rattle.face_json.proofs.put_part.Goals as goal

pub returns-in-1 : goal.returns-in-1
unfolding rows_in
returns-in-1 c = record { same = search rules; is = rw (sym c.number_at-part.ensures ∙ c.in-1.is) c.put_body.ensures.is }

pub returns-in_default : goal.returns-in_default
unfolding rows_in
returns-in_default c = record {
  same = search rules;
  is = let n = c.number_at-part.result in
      rw (sym c.number_at-part.ensures, ne_eqb n 1 (λ i. omega arith)) c.put_body-in_default.ensures.is;
}
