use Rattle.traffic_laws.proofs.WithinRates.{turns_are_within}
use Rattle.traffic_laws.proofs.capacity.turns_stay_within_the_limit.Goals as goal

pub returns : goal.returns
returns c = turns_are_within
