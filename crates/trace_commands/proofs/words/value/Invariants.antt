-- `trace_commands::words::value` meets its contract: what the digits passed and the rest say is what the word says. Assumes nothing.
use mathlib.Core.Path.{◌≡◌}
use lib.ListN.{drop}
use Rattle.trace_commands.specs.Numbers.{number_from, number_of}
use Rattle.trace_commands.proofs.words.value.Given as goal

abbrev pub invariant-loop-b : goal.invariant-loop-b
invariant-loop-b l = number_from l.v (drop l.b-index l.w) ≡ number_of l.w
