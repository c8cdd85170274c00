use Rattle.std.proofs.Common.{◌≡◌, ◌∙◌, ap, subst, sym, arith}
use Rattle.std.specs.Prelude.{All}
use Rattle.std.proofs.lemmas.List.{with_items_is}
use Rattle.cell_stages.specs.CellState.{CellState}
use Rattle.node_transfer.specs.Gathered.{gathered}
use Rattle.node_transfer.specs.Inside.Cells.{CanGather}
use Rattle.node_transfer.proofs.OfStep.Gather.{can-gather, gather-stage}
use Rattle.node_transfer.proofs.cell.NodeCell.gather.Goals as goal

pub gather_links-requires-clause-step : goal.gather_links-requires-clause-step
gather_links-requires-clause-step c =
    let s = c.requires.2 in
    let step = s.step in let ends = s.sound.horizon_most in omega (arith, step, ends)

pub gather_links-requires-clause-can : goal.gather_links-requires-clause-can
gather_links-requires-clause-can c =
    let (p, n, s, e) = c.requires in
    rw (c.deref_mut-2.ensures.value, c.deref_mut.ensures.value)
    (subst (λ (x : CellState). All CanGather x.ins) (sym (c.self.view_is ∙ e)) (can-gather p s.sound n c.args.step))

pub returns : goal.returns
returns c p n s e =
    let parts = c.deref_mut in
    let was : CellState = record { ins = c.deref_mut-2.result.now; outs = parts.result.now.outs.items; arrived = parts.result.now.arrived } in
    let same : was ≡ c.args.self.now = rw (c.deref_mut-2.ensures.value, parts.ensures.value) c.self.view_is in
    rw (with_items_is parts.result.now.ins c.gather_links.new.ins (c.gather_links.auto.ins ∙ c.deref_mut-2.ensures.len))
    (ap (λ ls. record was { ins = ls }) c.gather_links.ensures ∙ ap (λ x. gathered c.args.step x) (same ∙ e) ∙ gather-stage p s.sound n c.args.step)
