-- `trace_show::lent` meets its contract. Assumes nothing.
use mathlib.Core.Path.{refl}
use Rattle.trace_show.specs.Shown.{lent_bytes}
use Rattle.trace_show.proofs.lent.Goals as goal

pub returns : goal.returns
unfolding lent_bytes
returns c = refl
