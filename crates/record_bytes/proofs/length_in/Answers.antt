-- `record_bytes::length_in` meets its contract. Assumes nothing.
use mathlib.Core.Path.{sym, ap, ◌∙◌}
use Rattle.parsers.specs.Little.{little_of}
use Rattle.record_bytes.proofs.Laws.{eight_at}
use Rattle.record_bytes.proofs.length_in.Goals as goal

pub returns : goal.returns
returns c = c.from_eight.ensures ∙ ap little_of (sym (eight_at c.args.state.now c.requires))
