-- `trace_show::put_refused` meets its contract. Assumes nothing.
use Rattle.std.proofs.Common.{rules}
use mathlib.Core.Path.{ap, ◌∙◌}
use mathlib.Core.Bool.{Bool}
use mathlib.Core.List.{◌++◌}
use Rattle.refusal.specs.Refusal.{row_of}
use Rattle.text_out.specs.Text.{put}
use Rattle.text_out.proofs.Laws.{put_then}
use Rattle.trace_show.specs.Shown.{refusal_shown, kept_shown}
use Rattle.text_out.specs.Output.{stands}
use Rattle.trace_show.proofs.put_refused.Goals as goal

pub returns : goal.returns
returns c = record {
  same = search rules;
  is = let x = stands c.args.out.now in
      put_then x (refusal_shown (row_of c.args.refusal)) (kept_shown c.untouched-kept.result) c.put_refusal.ensures.is c.put_kept.ensures.is
      ∙ ap (λ (b : Bool). put x (refusal_shown (row_of c.args.refusal) ++ kept_shown b)) c.untouched-kept.ensures;
}
