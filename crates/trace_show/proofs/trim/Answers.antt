-- `trace_show::trim` meets its contract: what is left of the rest is what is left of all. Assumes nothing.
use mathlib.Core.Path.{◌∙◌}
use Rattle.trace_show.proofs.Trimmed.{trim_on, trim_stops, trim_none}
use Rattle.trace_show.proofs.trim.Goals as goal

pub loop-rest-preserved : goal.loop-rest-preserved
loop-rest-preserved c = trim_on c.loop-rest.rest.now c.in-len1-up.len_at_least c.if-last-ne0.false ∙ c.loop-rest.invariant

pub returns-then-last-ne0 : goal.returns-then-last-ne0
returns-then-last-ne0 c = trim_stops c.loop-rest.rest.now c.in-len1-up.len_at_least c.if-last-ne0.true ∙ c.loop-rest.invariant

pub returns : goal.returns
returns c = trim_none c.loop-rest.rest.now c.in_default.len_below ∙ c.loop-rest.invariant
