-- `summary::put_number` meets its contract. Assumes nothing.
use Rattle.std.proofs.Common.{rules}
use Rattle.text_out.specs.Text.{ascii}
use Rattle.text_out.proofs.Laws.{put_then}
use Rattle.summary.proofs.put_number.Goals as goal

pub returns : goal.returns
returns c = record {
  same = search rules;
  is = put_then _ (ascii "number ") _ c.put_bytes.ensures.is
      (put_then _ _ _ c.put_decimal.ensures.is c.put_bytes-2.ensures.is);
}
