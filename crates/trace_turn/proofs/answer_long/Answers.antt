-- `trace_turn::answer_long` meets its contract. Assumes nothing.
use mathlib.Core.List.{[], ◌∷◌}
use Rattle.text_out.proofs.Pieces.{puts_then}
use Rattle.trace_turn.proofs.answer_long.Goals as goal

pub returns : goal.returns
returns c = puts_then _ _ _ _ (10 ∷ []) c.say_bad.ensures c.put_byte.ensures
