-- `parsed`: refused, or taken and handed out, each by its law (proofs/Laws). Assumes nothing.
use mathlib.Core.Path.{refl}
use Rattle.answer.proofs.Laws.{copied, parsed-refused, parsed-taken}
use Rattle.answer.proofs.parsed.Goals as goal

pub returns-in-Err : goal.returns-in-Err
returns-in-Err c =
    parsed-refused c.args.s c.args.handed.now c.args.payload.now _ c.args.unarmored.now c.args.bits.now c.parse.result c.parse.ensures _
    c.in-Err.is c.refuse.ensures

pub returns-in-Ok : goal.returns-in-Ok
returns-in-Ok c =
    parsed-taken c.args.s c.args.handed.now c.args.payload.now _ c.args.unarmored.now c.args.bits.now c.parse.result c.parse.ensures _ _
    _ c.in-Ok.is refl c.hand-sentence.ensures.value refl c.hand-sentence.ensures.payload_after
    (copied c.args.unarmored.now c.args.bits.now _ c.copy_from_slice.ensures.after)
