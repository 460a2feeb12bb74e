-- `trace_commands::no_command` meets its contract. Assumes nothing.
use mathlib.Core.Path.{refl}
use Rattle.trace_commands.proofs.no_command.Goals as goal

pub returns : goal.returns
returns c =
    record {
      said = c.say_bad.ensures;
      kept = refl;
    }
