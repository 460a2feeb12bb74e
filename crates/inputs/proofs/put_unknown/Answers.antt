-- An unknown option's words, put one after the other. Assumes nothing.
use Rattle.std.proofs.Common.{rules}
use Rattle.text_out.proofs.Laws.{put_then}
use Rattle.inputs.specs.Words.{unknown_text}
use Rattle.inputs.proofs.put_unknown.Goals as goal

pub returns : goal.returns
unfolding unknown_text
returns c = record {
  same = search rules;
  is =
      let named = put_then _ _ _ (put_then _ _ _ c.put_bytes.ensures.is c.put_bytes-2.ensures.is) c.put_bytes-3.ensures.is in
      put_then _ _ _ named c.put_bytes-4.ensures.is;
}
