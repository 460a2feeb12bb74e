-- `trace_call::put_laid` meets its contract. Assumes nothing.
use Rattle.std.proofs.Common.{rules}
use mathlib.Core.List.{[], ◌∷◌}
use Rattle.text_out.proofs.Laws.{put_then}
use Rattle.trace_call.proofs.put_laid.Goals as goal

pub returns : goal.returns
returns c = record {
  same = search rules;
  is = put_then _ _ _
      (put_then _ _ _
      (put_then _ _ _ (put_then _ _ _ (put_then _ _ _ c.put_bytes.ensures.is c.put_sentence.ensures.is) c.put_handed.ensures.is)
      c.put_handed-2.ensures.is)
      (put_then _ (32 ∷ []) _ c.put_byte.ensures.is c.put_message.ensures.is))
      c.put_both_kept.ensures.is;
}
