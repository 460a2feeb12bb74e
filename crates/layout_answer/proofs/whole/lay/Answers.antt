-- `layout_answer::whole::lay` meets its contract. Assumes nothing.
use Rattle.layout_answer.proofs.Laid.{whole}
use Rattle.layout_answer.proofs.whole.lay.Goals as goal

pub returns : goal.returns
returns c = whole c.args.a c.args.line c.args.radio c.tell-code.ensures.texts_after c.tell-code.ensures.message_len c.value_count-count.ensures c.put_numbers.ensures
