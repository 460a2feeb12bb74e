-- `record_bytes::head` meets its contract. Assumes nothing.
use mathlib.Core.Path.{◌∙◌}
use Rattle.record_bytes.proofs.Sixteen.{head-is}
use Rattle.record_bytes.proofs.head.Goals as goal

pub returns : goal.returns
returns c = head-is c.args.number c.args.fragment c.args.len c.is_some.ensures c.unwrap_or.ensures (c.copy_from_slice.ensures.after ∙ c.to_eight.ensures)
