-- `true_type`: an empty payload has none; a value below 64, or no armour. Assumes nothing.
use native.Mathlib.Omega.{arith}
use Rattle.armour.proofs.Laws.{no_type}
use Rattle.armour.proofs.true_type.Goals as goal

pub returns-in_default : goal.returns-in_default
returns-in_default c = no_type c.args.payload.now (omega arith)
