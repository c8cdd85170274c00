use Rattle.traffic_laws.proofs.NoFaster.{visits_are_no_faster}
use Rattle.traffic_laws.proofs.free_flow.no_visit_is_faster_than_free_flow.Goals as goal

pub returns : goal.returns
returns c = visits_are_no_faster
