-- `trace_show::put_kept` meets its contract. Assumes nothing.
use Rattle.trace_show.proofs.put_kept.Goals as goal

pub returns-then-kept : goal.returns-then-kept
returns-then-kept c = rw c.if-kept.true c.put_bytes.ensures

pub returns-else-kept : goal.returns-else-kept
returns-else-kept c = rw c.if-kept.false c.put_bytes-else-kept.ensures
