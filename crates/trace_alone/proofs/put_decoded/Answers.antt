-- `trace_alone::put_decoded` meets its contract. Assumes nothing.
use mathlib.Core.Path.{sym}
use Rattle.trace_alone.specs.Message.{decoded_shown}
use Rattle.trace_alone.proofs.put_decoded.Goals as goal

pub returns-in-Ok : goal.returns-in-Ok
unfolding decoded_shown
returns-in-Ok c = rw (sym c.parse.ensures, c.in-Ok.is) c.put_message.ensures

pub returns-in-Err : goal.returns-in-Err
unfolding decoded_shown
returns-in-Err c = rw (sym c.parse.ensures, c.in-Err.is) c.put_refusal.ensures
