-- `hand`: the sentence that is heard, and the payload put first. Assumes nothing.
use Rattle.answer.proofs.Laws.{copied}
use Rattle.answer.proofs.hand.Goals as goal

pub heard-requires : goal.heard-requires
heard-requires c = c.requires.few

pub returns : goal.returns
returns c =
    record {
      value = c.heard.ensures;
      payload_after = copied c.args.handed.now c.args.payload.now _ c.copy_from_slice.ensures.after;
    }
