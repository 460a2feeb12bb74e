-- `layout_answer::tell_plain` meets its contract: four runs of numbers, and the texts. Assumes nothing.
use Rattle.std.proofs.Common.{rules, ap, ◌∙◌, replicate}
use Rattle.text_out.specs.Text.{Text, put}
use Rattle.text_out.proofs.Laws.{put_then}
use Rattle.layout_numbers.proofs.Laws.{put-named}
use Rattle.answer.specs.Answer.{plainly}
use Rattle.layout_answer.proofs.Tells.{together}
use Rattle.layout_answer.proofs.tell_plain.Goals as goal

pub returns : goal.returns
returns c =
    together (plainly c.args.a) c.args.numbers.now c.args.texts.now c.code.ensures
    (put_then _ _ _ (put-named _ c.put_numbers-b.ensures c.values-values.ensures)
    (put_then _ _ _ (put-named _ c.put_numbers-c.ensures c.of_sentence-heard.ensures)
    (put_then _ _ _ c.put_numbers-d.ensures c.put_numbers.ensures)))
    (c.put_no_texts.ensures.is ∙ ap (λ (t : Text). put t (replicate 80 0)) c.new.ensures.is) (search rules)
