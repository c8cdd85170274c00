use Rattle.node_transfer.proofs.OfRest.Idle.{quiet_nodes_stay_idle}
use Rattle.node_transfer.proofs.laws.quiet_nodes_stay_idle.Goals as goal

pub returns : goal.returns
returns c = quiet_nodes_stay_idle
