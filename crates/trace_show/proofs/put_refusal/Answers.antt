-- `trace_show::put_refusal` meets its contract. Assumes nothing.
use mathlib.Core.Path.{sym, ◌∙◌}
use Rattle.trace_show.specs.Shown.{refusal_shown}
use Rattle.trace_show.proofs.put_refusal.Goals as goal

pub returns : goal.returns
unfolding refusal_shown
returns c = rw (sym c.values-v.ensures.first, sym c.values-v.ensures.second, sym c.values-v.ensures.count, sym (c.from.ensures ∙ c.number.ensures)) c.put_refusal.ensures
