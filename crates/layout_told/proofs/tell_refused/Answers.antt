-- `layout_told::tell_refused` meets its contract. Assumes nothing.
use mathlib.Core.Path.{ap, ◌∙◌}
use Rattle.answer.specs.declared.Answer.{Answer}
use Rattle.layout_answer.specs.Answer.{told_of}
use Rattle.layout_told.proofs.tell_refused.Goals as goal

pub returns : goal.returns
returns c = c.tell_plain.ensures ∙ ap (λ (x : Answer). told_of x c.args.numbers.now c.args.texts.now) c.refuse_plainly-told.ensures
