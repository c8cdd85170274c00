use Rattle.trip_costs.proofs.Later.{later_never_arrives_earlier}
use Rattle.trip_costs.proofs.laws.later_never_arrives_earlier.Goals as goal

pub returns : goal.returns
returns c = later_never_arrives_earlier
