-- `parse_hex` meets its contract. Assumes nothing.
use Rattle.scan.specs.Scan.{hex}
use Rattle.scan.proofs.parse_hex.Goals as goal

pub returns : goal.returns
unfolding hex
returns c = c.digits.ensures
