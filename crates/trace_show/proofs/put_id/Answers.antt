-- `trace_show::put_id` meets its contract. Assumes nothing.
use Rattle.trace_show.proofs.put_id.Goals as goal

pub returns-in-None : goal.returns-in-None
returns-in-None c = rw c.in-None.is c.put_bytes.ensures

pub returns-in-Some : goal.returns-in-Some
returns-in-Some c = rw c.in-Some.is c.put_number.ensures
