-- `to_eight`: the library's bytes. Assumes nothing.
use mathlib.Core.Path.{sym, ◌∙◌}
use Rattle.parsers.proofs.LittleLaws.{little-written}
use Rattle.parsers.proofs.little.to_eight.Goals as goal

pub returns : goal.returns
returns c = c.to_le_bytes.ensures ∙ sym (little-written c.args.n)
