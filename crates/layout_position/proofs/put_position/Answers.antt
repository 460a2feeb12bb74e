-- `layout_position::put_position` meets its contract: three runs of numbers. Assumes nothing.
use Rattle.text_out.proofs.Laws.{put_then}
use Rattle.layout_numbers.proofs.Laws.{put-named}
use Rattle.layout_position.proofs.put_position.Goals as goal

pub returns : goal.returns
returns c =
    put_then _ _ _ (put-named _ c.put_numbers-a.ensures c.movement.ensures)
    (put_then _ _ _ (put-named _ c.put_numbers-b.ensures c.position.ensures)
    (put-named _ c.put_numbers.ensures c.radio.ensures))
