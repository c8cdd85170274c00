use Rattle.traffic_laws.proofs.FreeTrips.{trips_are_at_free_flow}
use Rattle.traffic_laws.proofs.free_flow.trips_take_free_flow_where_nothing_binds.Goals as goal

pub returns : goal.returns
returns c = trips_are_at_free_flow
