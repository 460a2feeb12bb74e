-- `delivery::round_trip` meets its contract: the theorems of proofs/RoundTrip.antt. Assumes nothing.
use Rattle.delivery.proofs.RoundTrip.{round_trip_holds}
use Rattle.delivery.proofs.round_trip.Goals as goal

pub returns : goal.returns
returns c = round_trip_holds
