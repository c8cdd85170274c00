use Rattle.std.proofs.Common.{◌<◌, length, sym, ◌∙◌, subst}
use Rattle.net_core.specs.NetInside.{rows_of}
use Rattle.net_core.specs.declared.rows.NetRows.{NetRows}
use Rattle.net_core.proofs.ByNodeFacts.{ins-filtered}
use Rattle.net_core.proofs.net.Net.ins.Goals as goal

pub returns : goal.returns
returns c =
    let within = subst (λ (net : NetRows). c.args.node.0 < length net.nodes) (sym c.self.view_is) c.requires in
    rw (← c.self.view_is) (sym c.get.ensures ∙ c.self.invariant.ins.listed c.args.node.0 within ∙ ins-filtered (rows_of c.self.inside) c.args.node.0)
