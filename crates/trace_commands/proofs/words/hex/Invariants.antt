-- `trace_commands::words::hex` meets its contract: the rest is hex if the word is. Assumes nothing.
use mathlib.Core.Path.{◌≡◌}
use lib.ListN.{drop}
use Rattle.trace_commands.specs.Hex.{all_hex}
use Rattle.trace_commands.proofs.words.hex.Given as goal

abbrev pub invariant-loop-b : goal.invariant-loop-b
invariant-loop-b l = all_hex (drop l.b-index l.w) ≡ all_hex l.w
