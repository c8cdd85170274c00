use Rattle.std.proofs.Common.{◌≡◌, ◌∙◌, ap, subst, sym}
use Rattle.std.proofs.lemmas.List.{with_items_is}
use Rattle.cell_stages.specs.CellState.{CellState}
use Rattle.cell_stages.specs.Contents.{away, room_of}
use Rattle.node_transfer.specs.Inside.Cells.{CanTransfer, transferred}
use Rattle.node_transfer.proofs.OfStep.Totals.{can-transfer}
use Rattle.node_transfer.proofs.OfStep.Transfer.{transfer-stage}
use Rattle.node_transfer.proofs.cell.NodeCell.transfer.Goals as goal

pub transfer_links-requires : goal.transfer_links-requires
transfer_links-requires c =
    let (p, n, s, e) = c.requires in
    rw (c.deref_mut.ensures.value, c.deref_mut-2.ensures.value, c.deref_mut-parts.ensures.value)
    (subst CanTransfer (sym (c.self.view_is ∙ e)) (can-transfer p n c.args.step s.sound s.node away (room_of p c.args.step)))

pub returns : goal.returns
returns c p n s e =
    let parts = c.deref_mut-parts in
    let was : CellState = record { ins = c.deref_mut.result.now; outs = c.deref_mut-2.result.now; arrived = parts.result.now.arrived } in
    let same : was ≡ c.args.self.now = rw (c.deref_mut.ensures.value, c.deref_mut-2.ensures.value, parts.ensures.value) c.self.view_is in
    let ins = with_items_is parts.result.now.ins c.transfer_links.new.ins (c.transfer_links.auto.ins ∙ c.deref_mut.ensures.len) in
    let outs = with_items_is parts.result.now.outs c.transfer_links.new.outs (c.transfer_links.auto.outs ∙ c.deref_mut-2.ensures.len) in
    rw (ins, outs)
    (sym c.transfer_links.ensures ∙ ap (λ x. transferred c.args.step x) (same ∙ e) ∙ transfer-stage p s.sound n c.args.step)
