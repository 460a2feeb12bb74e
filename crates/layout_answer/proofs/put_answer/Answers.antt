-- `layout_answer::put_answer` meets its contract: three runs of numbers. Assumes nothing.
use Rattle.text_out.proofs.Laws.{put_then}
use Rattle.layout_numbers.proofs.Laws.{put-named}
use Rattle.layout_answer.proofs.put_answer.Goals as goal

pub returns : goal.returns
returns c =
    put_then _ _ _ (put-named _ c.put_numbers-b.ensures c.values-values.ensures)
    (put_then _ _ _ (put-named _ c.put_numbers-c.ensures c.of_sentence-heard.ensures)
    c.put_message.ensures)
