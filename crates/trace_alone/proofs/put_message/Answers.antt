-- `trace_alone::put_message` meets its contract. Assumes nothing.
use Rattle.std.proofs.Common.{rules}
use mathlib.Core.Path.{ap, ◌∙◌}
use Rattle.layout_answer.specs.declared.whole.Layout.{Layout}
use Rattle.text_out.specs.Text.{put}
use Rattle.text_out.specs.Output.{stands}
use Rattle.trace_alone.specs.Message.{laid_shown}
use Rattle.trace_alone.proofs.put_message.Goals as goal

pub returns : goal.returns
returns c = record {
  same = search rules;
  is = c.put_message.ensures.is ∙ ap (λ (l : Layout). put (stands c.args.out.now) (laid_shown l)) c.lay_message-laid.ensures;
}
