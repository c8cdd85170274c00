use Rattle.traffic_laws.proofs.WithinRates.{entries_are_within}
use Rattle.traffic_laws.proofs.capacity.entries_stay_within_the_rate.Goals as goal

pub returns : goal.returns
returns c = entries_are_within
