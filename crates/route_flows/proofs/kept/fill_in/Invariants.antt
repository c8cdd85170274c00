use Rattle.route_flows.proofs.Started.{Filling}
use Rattle.route_flows.proofs.kept.fill_in.Given as goal

abbrev pub invariant-loop-v : goal.invariant-loop-v
invariant-loop-v l = Filling l.fn.others l.v l.fn.walks l.walks l.others
