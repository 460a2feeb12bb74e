-- `trace_commands::words::start` meets its contract: the words left to skip lead from here to the same word. Assumes nothing.
use mathlib.Core.Path.{◌≡◌}
use lib.ListN.{drop}
use Rattle.trace_commands.specs.Line.{word_at}
use Rattle.trace_commands.proofs.words.start.Given as goal

abbrev pub invariant-loop-i : goal.invariant-loop-i
invariant-loop-i l = word_at l.left (drop l.i l.line) ≡ word_at l.k l.line
