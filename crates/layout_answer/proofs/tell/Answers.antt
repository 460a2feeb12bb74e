-- `layout_answer::tell` meets its contract. Assumes nothing.
use Rattle.std.proofs.Common.{rules, ap, ◌∙◌}
use Rattle.text_out.specs.Text.{Text, put}
use Rattle.layout_message.specs.Message.{message_texts}
use Rattle.layout_answer.proofs.Tells.{together}
use Rattle.layout_answer.proofs.tell.Goals as goal

pub returns : goal.returns
returns c = record {
  texts_after =
      together c.args.a c.args.numbers.now c.args.texts.now c.code.ensures c.put_answer.ensures
      (c.put_texts.ensures.out_after.is ∙ ap (λ (t : Text). put t (message_texts c.args.a.message)) c.new.ensures.is) (search rules);
  message_len = c.put_texts.ensures.m_len;
}
