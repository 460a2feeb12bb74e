-- `delivery::demand3` meets its contract: the theorems of proofs/Sent.antt. Assumes nothing.
use Rattle.delivery.proofs.Sent.{demand3_holds}
use Rattle.delivery.proofs.demand3.Goals as goal

pub returns : goal.returns
returns c = demand3_holds
