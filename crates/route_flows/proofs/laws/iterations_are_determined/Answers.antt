use Rattle.route_flows.proofs.Numbered.{since_are_determined}
use Rattle.route_flows.proofs.laws.iterations_are_determined.Goals as goal

pub returns : goal.returns
returns c = since_are_determined
