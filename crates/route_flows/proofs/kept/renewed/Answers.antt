use Rattle.std.proofs.Common.{rules}
use Rattle.route_flows.specs.Asked.{takes}
use Rattle.route_flows.proofs.Averaged.{renewed_lent}
use Rattle.route_flows.proofs.kept.renewed.Goals as goal

pub returns : goal.returns
returns c =
    renewed_lent (takes c.args.change.now) c.args.walks.items c.deref_mut.result.now c.args.routes.len c.args.routes.items c.deref_mut-2.result.now c.renew_selected.new.routes c.of.result
    (search rules) c.deref_mut-2.ensures.value c.deref_mut.ensures.value c.renew_selected.ensures c.of.ensures
