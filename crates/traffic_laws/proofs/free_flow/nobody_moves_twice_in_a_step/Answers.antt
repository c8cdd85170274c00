use Rattle.traffic_laws.proofs.Journeying.{moves_once_in_a_step}
use Rattle.traffic_laws.proofs.free_flow.nobody_moves_twice_in_a_step.Goals as goal

pub returns : goal.returns
returns c = moves_once_in_a_step
