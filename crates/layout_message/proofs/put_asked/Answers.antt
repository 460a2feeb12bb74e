-- `layout_message::put_asked` meets its contract. Assumes nothing.
use mathlib.Core.Path.{◌∙◌}
use Rattle.layout_message.proofs.Unused.{none_alike, together}
use Rattle.layout_message.proofs.put_asked.Goals as goal

pub returns : goal.returns
returns c =
    together _ c.args.i c.put_runs.ensures (c.station.ensures ∙ none_alike c.args.i.stations 0)
    (c.station-2.ensures ∙ none_alike c.args.i.stations 1)
