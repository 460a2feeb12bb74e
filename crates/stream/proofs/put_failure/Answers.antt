-- The words of a failure, put one after the other. Assumes nothing.
use Rattle.std.proofs.Common.{[], ◌∷◌, rules}
use Rattle.text_out.proofs.Laws.{put_then}
use Rattle.stream.specs.Moves.{failure_text}
use Rattle.stream.proofs.put_failure.Goals as goal

pub returns : goal.returns
unfolding failure_text
returns c = record {
  same = search rules;
  is =
      let numbered = put_then _ _ _ (put_then _ _ _ c.put_bytes.ensures.is c.put_bytes-2.ensures.is) c.put_decimal.ensures.is in
      let done = put_then _ _ _ (put_then _ _ _ numbered c.put_bytes-3.ensures.is) c.put_bytes-4.ensures.is in
      put_then _ _ _ (put_then _ _ (32 ∷ []) done c.put_byte.ensures.is) c.put_bytes-5.ensures.is;
}
