use Rattle.trip_costs.proofs.Agreeing.{free_flow_past_the_horizon}
use Rattle.trip_costs.proofs.laws.free_flow_past_the_horizon.Goals as goal

pub returns : goal.returns
returns c = free_flow_past_the_horizon
