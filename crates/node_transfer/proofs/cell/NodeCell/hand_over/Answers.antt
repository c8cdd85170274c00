use Rattle.std.specs.List.{flat_map}
use Rattle.std.proofs.Common.{◌∙◌, ◌++◌, subst, sym, ap, length}
use Rattle.std.specs.Prelude.{All}
use Rattle.node_transfer.specs.Hand.{Within, handed, line_of, riders_in, waiting_of}
use Rattle.node_transfer.proofs.cell.NodeCell.hand_over.Goals as goal

pub hand_parts-requires : goal.hand_parts-requires
hand_parts-requires c =
    let same =
    ap (λ is. flat_map line_of is ++ (flat_map waiting_of c.deref_mut-2.result.now ++ c.into_inner-ins.result.arrived)) c.deref_mut.ensures.value
    ∙ ap (λ os. flat_map line_of c.into_inner-ins.result.ins.items ++ (flat_map waiting_of os ++ c.into_inner-ins.result.arrived)) c.deref_mut-2.ensures.value
    ∙ ap (λ p. flat_map line_of p.ins.items ++ (flat_map waiting_of p.outs.items ++ p.arrived)) c.into_inner-ins.ensures
    ∙ ap (λ s. riders_in s) c.self.view_is in
    subst (λ rs. All (Within (length c.args.loaded.now)) rs) (sym same) c.requires

pub returns : goal.returns
returns c =
    let same =
    ap (λ is. flat_map line_of is ++ (flat_map waiting_of c.deref_mut-2.result.now ++ c.into_inner-ins.result.arrived)) c.deref_mut.ensures.value
    ∙ ap (λ os. flat_map line_of c.into_inner-ins.result.ins.items ++ (flat_map waiting_of os ++ c.into_inner-ins.result.arrived)) c.deref_mut-2.ensures.value
    ∙ ap (λ p. flat_map line_of p.ins.items ++ (flat_map waiting_of p.outs.items ++ p.arrived)) c.into_inner-ins.ensures
    ∙ ap (λ s. riders_in s) c.self.view_is in
    c.hand_parts.ensures ∙ ap (λ rs. handed rs c.args.loaded.now) same
