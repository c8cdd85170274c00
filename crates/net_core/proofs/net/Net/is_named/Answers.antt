use Rattle.std.proofs.Common.{◌<◌, ◌∙◌, length, sym, subst}
use Rattle.net_core.specs.NetInside.{rows_of}
use Rattle.net_core.specs.declared.rows.NetRows.{NetRows}
use Rattle.net_core.proofs.ByNodeFacts.{named-told}
use Rattle.net_core.proofs.net.Net.is_named.Goals as goal

pub returns : goal.returns
returns c =
    let net = rows_of c.self.inside in
    let n = c.args.node.0 in
    let within : n < length net.nodes = subst (λ (rows : NetRows). n < length rows.nodes) (sym c.self.view_is) c.requires in
    rw (← c.self.view_is)
    (c.index.ensures ∙ named-told net c.self.inside.named.items n c.index.result.now within c.self.invariant.named)
