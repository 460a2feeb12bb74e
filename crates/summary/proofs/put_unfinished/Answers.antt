-- `summary::put_unfinished` meets its contract. Assumes nothing.
use Rattle.std.proofs.Common.{rules}
use mathlib.Core.Path.{◌∙◌, ap}
use Rattle.reassembly.specs.declared.Record.{Record}
use Rattle.text_out.specs.Text.{put}
use Rattle.summary.specs.Unfinished.{unfinished_text}
use Rattle.text_out.specs.Output.{stands}
use Rattle.summary.proofs.put_unfinished.Goals as goal

pub returns : goal.returns
returns c = record { same = search rules; is = c.put_held.ensures.is ∙ ap (λ (r : Record). put (stands c.args.out.now) (unfinished_text r)) c.load-held.ensures }
