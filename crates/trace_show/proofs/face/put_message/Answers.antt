-- `trace_show::face::put_message` meets its contract: the rows that the code holds are the tables. Assumes nothing.
use mathlib.Core.Path.{sym, ◌∙◌}
use Rattle.face_rows.specs.Code.{rows_in}
use Rattle.trace_show.specs.Message.{message_words}
use native.Mathlib.Omega.{arith}
use borrow.Author.Tests.{ne_eqb}
use Rattle.trace_show.proofs.face.put_message.Goals as goal

pub returns-in-1 : goal.returns-in-1
unfolding message_words rows_in
returns-in-1 c = rw (sym c.number_at-kind.ensures ∙ c.in-1.is) c.put_rows.ensures

pub returns-in-2 : goal.returns-in-2
unfolding message_words rows_in
returns-in-2 c = rw (sym c.number_at-kind.ensures ∙ c.in-2.is) c.put_rows-in-2.ensures

pub returns-in-3 : goal.returns-in-3
unfolding message_words rows_in
returns-in-3 c = rw (sym c.number_at-kind.ensures ∙ c.in-3.is) c.put_rows-in-3.ensures

pub returns-in_default : goal.returns-in_default
unfolding message_words rows_in
returns-in_default c =
    let n = c.number_at-kind.result in
    rw (sym c.number_at-kind.ensures, ne_eqb n 1 (λ i. omega arith), ne_eqb n 2 (λ i. omega arith), ne_eqb n 3 (λ i. omega arith)) c.put_rows-in_default.ensures
