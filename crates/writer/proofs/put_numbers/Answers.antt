-- `put_numbers` meets its contract. Assumes nothing.
use Rattle.std.proofs.Common.{rules}
use borrow.Author.Tests.{ne_eqb}
use Rattle.text_out.proofs.Laws.{put_then}
use Rattle.text_out.specs.Output.{stands}
use Rattle.writer.proofs.put_numbers.Goals as goal

pub returns-then-total-ne1 : goal.returns-then-total-ne1
returns-then-total-ne1 c = record {
  same = search rules;
  is = rw (ne_eqb _ 1 c.if-total-ne1.true) (put_then (stands c.args.out.now) _ _ c.put_bytes.ensures.is c.put_byte.ensures.is);
}
