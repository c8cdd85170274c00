use Rattle.traffic_laws.proofs.RoutesBack.{routes_are_read_back}
use Rattle.traffic_laws.proofs.round_trips.routes_are_read_back.Goals as goal

pub returns : goal.returns
returns c = routes_are_read_back
