use Rattle.traffic_laws.proofs.WithinRates.{leavings_are_within}
use Rattle.traffic_laws.proofs.capacity.leavings_stay_within_the_rate.Goals as goal

pub returns : goal.returns
returns c = leavings_are_within
