-- `trace_commands::say_bad` meets its contract. Assumes nothing.
use Rattle.trace_commands.proofs.say_bad.Goals as goal

pub returns : goal.returns
returns c = c.put_bytes.ensures
