-- `layout_numbers::put_all` meets its contract: the numbers stand where they were copied to. Assumes nothing.
use Rattle.text_out.proofs.Copied.{copied_put}
use Rattle.layout_numbers.proofs.put_all.Goals as goal

pub returns : goal.returns
returns c = copied_put c.args.at c.args.out.now c.args.s.now c.requires _ c.copy_from_slice.ensures.after
