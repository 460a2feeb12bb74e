-- `trace_turn::turn` meets its contract. Assumes nothing.
use Rattle.std.proofs.Common.{rules}
use mathlib.Core.Path.{ap, ◌∙◌}
use Rattle.text_out.specs.Text.{Text}
use Rattle.trace_turn.specs.Turn.{replied_in, replied_of}
use Rattle.trace_turn.proofs.Laws.{turned}
use Rattle.trace_turn.proofs.turn.Goals as goal

pub returns : goal.returns
returns c =
    turned _ _ _ _ _ _ _ _ _ _ _ c.take_line-t.ensures
    (ap (replied_in (record { state = c.answer_next-state.result; at = c.answer_next-state.new.out.at })) (search rules)
    ∙ c.answer_next-state.ensures.is
    ∙ ap (λ (t : Text). replied_of c.args.state t.at c.take_line-t.result.next c.take_line-t.new.line t.bytes) c.new-said.ensures.is)
