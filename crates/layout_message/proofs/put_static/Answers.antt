-- `layout_message::put_static` meets its contract: four runs of numbers. Assumes nothing.
use Rattle.text_out.proofs.Laws.{put_then}
use Rattle.layout_numbers.proofs.Laws.{put-named}
use Rattle.layout_message.proofs.put_static.Goals as goal

pub returns : goal.returns
returns c =
    put_then _ _ _ c.put_numbers-a.ensures
    (put_then _ _ _ (put-named _ c.put_numbers-b.ensures c.part-told.ensures)
    (put_then _ _ _ (put-named _ c.put_numbers-c.ensures c.lengths-long.ensures) c.put_numbers.ensures))
