-- `layout_answer::whole::lay_message` meets its contract. Assumes nothing.
use Rattle.std.proofs.Common.{rules, ap, ◌∙◌}
use Rattle.text_out.specs.Text.{Text, put}
use Rattle.layout_message.specs.Message.{message_texts}
use Rattle.layout_answer.proofs.Laid.{alone}
use Rattle.layout_answer.proofs.whole.lay_message.Goals as goal

pub returns : goal.returns
returns c =
    alone c.args.m c.put_message.ensures (c.put_texts.ensures.out_after.is ∙ ap (λ (t : Text). put t (message_texts c.args.m)) c.new.ensures.is) (search rules)
    c.put_texts.ensures.m_len
