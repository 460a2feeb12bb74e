-- `trace_call::put_taken` meets its contract. Assumes nothing.
use Rattle.std.proofs.Common.{rules}
use mathlib.Core.Path.{ap, ◌∙◌}
use Rattle.ais.specs.Call.{called_in}
use Rattle.layout_answer.specs.declared.whole.Layout.{Layout}
use Rattle.text_out.specs.Text.{put}
use Rattle.trace_call.specs.Taken.{taken_with}
use Rattle.text_out.specs.Output.{stands}
use Rattle.trace_call.proofs.put_taken.Goals as goal

pub returns : goal.returns
returns c = record {
  same = search rules;
  is = c.put_laid.ensures.is
      ∙ ap (λ (l : Layout). put (stands c.args.out.now) (taken_with l c.args.word.now c.args.m (called_in c.args.stepped c.args.payload.now c.args.bits.now)))
      c.lay-laid.ensures;
}
