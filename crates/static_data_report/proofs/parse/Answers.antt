-- `parse`: each way out is one law of the answer (proofs/Laws). Assumes nothing.
use borrow.Author.Rules.{rules}
use mathlib.Core.Path.{sym, ap, ◌∙◌}
use Rattle.std.specs.Prelude.{Ok}
use native.Mathlib.Omega.{arith}
use Rattle.static_data_report.proofs.Laws.{short-head, short_a, short_b, part_a, part_b_lem, part_unknown}
use Rattle.static_data_report.proofs.Unique.{promised}
use Rattle.static_data_report.proofs.parse.Goals as goal

pub returns-then-bytes-lt5 : goal.returns-then-bytes-lt5
returns-then-bytes-lt5 c = promised _ _ (sym (short-head _ (omega arith)))

pub returns-then-bytes-lt20 : goal.returns-then-bytes-lt20
returns-then-bytes-lt20 c = promised _ _ (sym (short_a _ (sym c.field-part_number.ensures.is ∙ c.in-0.is) (omega arith)))

pub returns-then-bytes-lt21 : goal.returns-then-bytes-lt21
returns-then-bytes-lt21 c = promised _ _ (sym (short_b _ (sym c.field-part_number.ensures.is ∙ c.in-1.is) (omega arith)))

pub returns-else-bytes-lt20 : goal.returns-else-bytes-lt20
returns-else-bytes-lt20 c =
    promised _ _
    (ap Ok (rw c.name_of.ensures at c.report_of.ensures)
    ∙ sym (part_a _ (sym c.field-part_number.ensures.is ∙ c.in-0.is) (omega arith)))

pub returns-else-bytes-lt21 : goal.returns-else-bytes-lt21
returns-else-bytes-lt21 c =
    promised _ _
    (ap Ok (rw (c.part_b_texts_of.ensures, c.part_b_of.ensures) at c.report_of-in-1.ensures)
    ∙ sym (part_b_lem _ (sym c.field-part_number.ensures.is ∙ c.in-1.is) (omega arith)))

pub returns-in_default : goal.returns-in_default
returns-in_default c =
    promised _ _
    (ap Ok (rw c.no_texts.ensures at c.report_of-in_default.ensures)
    ∙ sym (part_unknown _ _ (sym c.field-part_number.ensures.is) (search rules) (search rules) (omega arith)))
