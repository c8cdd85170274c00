use Rattle.std.proofs.Common.{◌≡◌, ◌∙◌, ap}
use Rattle.cell_stages.specs.CellState.{CellState}
use Rattle.node_transfer.specs.Inside.Counted.{counted}
use Rattle.node_transfer.proofs.OfStep.Totals.{counts-stage}
use Rattle.node_transfer.proofs.cell.NodeCell.counts.Goals as goal

pub returns : goal.returns
returns c p n sound node e =
    let was : CellState = record { ins = c.deref.result.now; outs = c.deref-2.result.now; arrived = c.deref-parts.result.now.arrived } in
    let same : was ≡ c.args.self.now = rw (c.deref.ensures.value, c.deref-2.ensures.value, c.deref-parts.ensures) c.self.view_is in
    c.count_parts.ensures ∙ ap (λ s. counted s.ins s.outs s.arrived) (same ∙ e) ∙ counts-stage p n c.args.steps sound node
