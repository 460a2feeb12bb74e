-- `trace_protocol::show_read` meets its contract. Assumes nothing.
use Rattle.std.proofs.Common.{rules}
use mathlib.Core.Path.{ap, ◌∙◌}
use Rattle.ais.specs.Call.{Called}
use Rattle.text_out.specs.Text.{put}
use Rattle.text_out.specs.Output.{stands}
use Rattle.trace_call.specs.Called.{called_shown}
use Rattle.trace_protocol.proofs.show_read.Goals as goal

pub returns : goal.returns
returns c = record {
  said = record {
    same = search rules;
    is = c.put_called.ensures.is ∙ ap (λ (k : Called). put (stands c.args.out.now) (called_shown c.args.decode k)) c.call-stepped.ensures;
  };
  kept = ap (λ (k : Called). k.after) c.call-stepped.ensures;
}
