use Rattle.traffic_laws.proofs.Holding.{heads_are_held}
use Rattle.traffic_laws.proofs.waiting.a_ready_vehicle_is_held_for_a_reason.Goals as goal

pub returns : goal.returns
returns c = heads_are_held
