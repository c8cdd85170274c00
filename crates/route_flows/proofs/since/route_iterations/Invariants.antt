use Rattle.route_flows.specs.Averages.{IsSince}
use Rattle.route_flows.proofs.Started.{Begun}
use Rattle.route_flows.proofs.since.route_iterations.Given as goal

abbrev pub invariant-loop-v : goal.invariant-loop-v
invariant-loop-v l = Begun (IsSince l.by l.net l.start l.iterations) l.trips l.v l.numbers.items
