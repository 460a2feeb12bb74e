-- `parse`: what is answered of a position report, or another type's message. Assumes nothing.
use Rattle.std.specs.Prelude.{Result, Err}
use mathlib.Core.Path.{◌≡◌, ap, sym, ◌∙◌}
use mathlib.Core.List.{List}
use Prim.Native.Nat.{ℕ}
use Rattle.position_report.specs.Table.{position_table}
use Rattle.position_report.specs.Report.{report_in, answer_of}
use Rattle.position_report.specs.declared.PositionReport.{PositionReport}
use Rattle.radio_status.specs.declared.Unread.{Unread}
use Rattle.messages.specs.Messages.{decoded_of}
use Rattle.messages.proofs.Laws.{the_by_answer, by_answer}
use Rattle.messages.proofs.parse.Goals as goal

-- what is decoded where the answer r was p
decoded-at : (d : List ℕ) (r p : Result PositionReport Unread) → report_in r ≡ answer_of position_table d → r ≡ p → the_by_answer d (report_in p) ≡ decoded_of d
decoded-at d r p h e = sym (by_answer d ∙ ap (the_by_answer d) (sym h) ∙ ap (λ (q : Result PositionReport Unread). the_by_answer d (report_in q)) e)

pub returns-in-Ok : goal.returns-in-Ok
returns-in-Ok c = rw c.nothing.ensures (decoded-at c.args.bytes.now c.parse.result _ c.parse.ensures c.in-Ok.is)

pub returns-in-Err-Short : goal.returns-in-Err-Short
returns-in-Err-Short c =
    decoded-at c.args.bytes.now c.parse.result (Err Unread.Short) c.parse.ensures (c.in-Err-Short.is ∙ ap Err c.in-Err-Short.field-0-is)

pub returns-in-Err-OtherType : goal.returns-in-Err-OtherType
returns-in-Err-OtherType c =
    c.parse_other.ensures
    ∙ decoded-at c.args.bytes.now c.parse.result (Err (Unread.OtherType c.in-Err-OtherType.number)) c.parse.ensures
    (c.in-Err-OtherType.is ∙ ap Err c.in-Err-OtherType.field-0-is)
