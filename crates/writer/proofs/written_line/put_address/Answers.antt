-- `put_address` meets its contract: the letters of both, where they have any. Assumes nothing.
use Rattle.std.proofs.Common.{rules}
use Rattle.text_out.specs.Output.{stands}
use Rattle.text_out.proofs.Laws.{put_then}
use Rattle.writer.proofs.written_line.put_address.Goals as goal

pub returns : goal.returns
returns c = record {
  same = search rules;
  is =
      rw (← c.talker_letters.ensures, ← c.report_letters.ensures)
      (put_then (stands c.args.out.now) _ _ c.put_bytes.ensures.is c.put_bytes-2.ensures.is);
}
