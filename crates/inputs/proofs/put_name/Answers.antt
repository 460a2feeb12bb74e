-- A file's name, put after the program's. Assumes nothing.
use Rattle.std.proofs.Common.{rules}
use Rattle.text_out.proofs.Laws.{put_then}
use Rattle.inputs.specs.Words.{named_text}
use Rattle.inputs.proofs.put_name.Goals as goal

pub returns : goal.returns
unfolding named_text
returns c = record {
  same = search rules;
  is = put_then _ _ _ (put_then _ _ _ c.put_bytes.ensures.is c.put_bytes-2.ensures.is) c.put_bytes-3.ensures.is;
}
