-- `layout_message::put_runs` meets its contract: four runs of numbers. Assumes nothing.
use Rattle.text_out.proofs.Laws.{put_then}
use Rattle.layout_message.proofs.put_runs.Goals as goal

pub returns : goal.returns
returns c =
    put_then _ _ _ c.put_numbers-a.ensures
    (put_then _ _ _ c.put_numbers-b.ensures
    (put_then _ _ _ c.put_numbers-c.ensures c.put_numbers.ensures))
