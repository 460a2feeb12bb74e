-- `trace_turn::answer_next` meets its contract. Assumes nothing.
use mathlib.Core.Path.{ap}
use Rattle.text_out.specs.Text.{Text}
use Rattle.trace_turn.proofs.answer_next.Goals as goal

pub returns-in-Line : goal.returns-in-Line
returns-in-Line c = rw c.in-Line.is c.answer_line.ensures

pub returns-in-TooLong : goal.returns-in-TooLong
returns-in-TooLong c =
    rw c.in-TooLong.is
    (record { same = c.answer_long.ensures.same; is = ap (λ (t : Text). record { state = c.args.state; out = t }) c.answer_long.ensures.is })
