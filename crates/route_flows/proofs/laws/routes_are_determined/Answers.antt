use Rattle.route_flows.proofs.Determined.{chosen_are_determined, next_are_determined}
use Rattle.route_flows.proofs.Numbered.{started_are_determined}
use Rattle.route_flows.proofs.laws.routes_are_determined.Goals as goal

pub returns : goal.returns
returns c = record {
  chosen = chosen_are_determined;
  started = started_are_determined;
  next = next_are_determined;
}
