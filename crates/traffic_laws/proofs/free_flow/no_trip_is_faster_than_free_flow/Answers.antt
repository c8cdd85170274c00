use Rattle.traffic_laws.proofs.NoFaster.{trips_are_no_faster}
use Rattle.traffic_laws.proofs.free_flow.no_trip_is_faster_than_free_flow.Goals as goal

pub returns : goal.returns
returns c = trips_are_no_faster
