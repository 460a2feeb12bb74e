-- `sumturnip::sumturnip_write` meets its contract. Assumes nothing.
use mathlib.Core.Path.{ap, ◌∙◌}
use Rattle.writer.specs.declared.Request.{Request}
use Rattle.sumturnip.specs.Request.{request_by}
use Rattle.sumturnip.specs.Calls.{writes_of}
use Rattle.sumturnip.proofs.Calls.{counted-alike, count-short, fills_flattened}
use Rattle.sumturnip.proofs.sumturnip_write.Goals as goal

pub returns-then-answer-lt1 : goal.returns-then-answer-lt1
returns-then-answer-lt1 c = count-short _ _ _ _ c.if-answer-lt1.true

pub returns : goal.returns
returns c =
    fills_flattened _ _ _ _ c.if-answer-lt1.false (counted-alike c.write-written.result ∙ c.write-written.ensures.answers) c.write-written.ensures.leaves
    c.counted_code.ensures c.counted.ensures
    ∙ ap (λ (q : Request). writes_of q c.args.bits.now c.args.out.now c.args.answer.now)
    {y = request_by c.args.count c.args.talker c.args.report c.args.there c.args.channel c.args.number} c.request_of-request.ensures
