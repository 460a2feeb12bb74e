-- `trace_call::put_both_kept` meets its contract. Assumes nothing.
use mathlib.Core.Path.{sym, ◌∙◌}
use Rattle.trace_call.proofs.put_both_kept.Goals as goal

pub returns-then-untouched : goal.returns-then-untouched
returns-then-untouched c = rw (sym c.untouched.ensures ∙ c.if-untouched.true, sym c.untouched-then-untouched.ensures) c.put_kept.ensures

pub returns-else-untouched : goal.returns-else-untouched
returns-else-untouched c = rw (sym c.untouched.ensures ∙ c.if-untouched.false) c.put_kept-else-untouched.ensures
