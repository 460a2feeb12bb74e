-- `trace_show::untouched` meets its contract: the rest is untouched if the whole is. Assumes nothing.
use mathlib.Core.Path.{◌≡◌}
use lib.ListN.{drop}
use Rattle.trace_show.specs.Shown.{untouched_in}
use Rattle.trace_show.proofs.untouched.Given as goal

abbrev pub invariant-loop-i : goal.invariant-loop-i
invariant-loop-i l = untouched_in (drop l.i l.lent) ≡ untouched_in (drop l.from l.lent)
