use Rattle.traffic_laws.proofs.NoFaster.{nobody_is_early}
use Rattle.traffic_laws.proofs.free_flow.nobody_departs_early.Goals as goal

pub returns : goal.returns
returns c = nobody_is_early
