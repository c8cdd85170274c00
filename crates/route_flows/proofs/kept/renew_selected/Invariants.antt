use Rattle.route_flows.specs.Asked.{takes}
use Rattle.route_flows.proofs.Averaged.{Renewing}
use Rattle.route_flows.proofs.kept.renew_selected.Given as goal

abbrev pub invariant-loop-v : goal.invariant-loop-v
invariant-loop-v l = Renewing (takes l.change) l.fn.walks l.v l.fn.routes l.routes l.walks
