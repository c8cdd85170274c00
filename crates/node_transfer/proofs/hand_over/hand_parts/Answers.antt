use Rattle.std.specs.List.{flat_map}
use Rattle.std.proofs.Common.{◌∙◌, ◌++◌, sym, subst, ap, length}
use Rattle.std.specs.Prelude.{All}
use Rattle.node_transfer.specs.Hand.{Within, handed, line_of, waiting_of}
use Rattle.node_transfer.proofs.OfHandOver.Hands.{all_split, handed-append}
use Rattle.node_transfer.proofs.hand_over.hand_parts.Goals as goal

pub hand_links-requires : goal.hand_links-requires
hand_links-requires c = (all_split (Within (length c.args.loaded.now)) (flat_map line_of c.args.ins.now) (flat_map waiting_of c.args.outs.now ++ c.args.arrived.now) c.requires).0

pub hand_links-requires-2 : goal.hand_links-requires-2
hand_links-requires-2 c =
    let rest = (all_split (Within (length c.args.loaded.now)) (flat_map line_of c.args.ins.now) (flat_map waiting_of c.args.outs.now ++ c.args.arrived.now) c.requires).1 in
    subst (λ k. All (Within k) (flat_map waiting_of c.args.outs.now)) (sym c.hand_links.ensures.same) ((all_split (Within (length c.args.loaded.now)) (flat_map waiting_of c.args.outs.now) c.args.arrived.now rest).0)

pub hand_line-requires : goal.hand_line-requires
hand_line-requires c =
    let rest = (all_split (Within (length c.args.loaded.now)) (flat_map line_of c.args.ins.now) (flat_map waiting_of c.args.outs.now ++ c.args.arrived.now) c.requires).1 in
    subst (λ k. All (Within k) c.args.arrived.now) (sym (c.hand_links-2.ensures.same ∙ c.hand_links.ensures.same)) ((all_split (Within (length c.args.loaded.now)) (flat_map waiting_of c.args.outs.now) c.args.arrived.now rest).1)

pub returns : goal.returns
returns c =
    c.hand_line.ensures.done
    ∙ ap (λ l. handed c.args.arrived.now l) (c.hand_links-2.ensures.done ∙ ap (λ l. handed (flat_map waiting_of c.args.outs.now) l) c.hand_links.ensures.done)
    ∙ sym (handed-append (flat_map line_of c.args.ins.now) (flat_map waiting_of c.args.outs.now ++ c.args.arrived.now) c.args.loaded.now ∙ handed-append (flat_map waiting_of c.args.outs.now) c.args.arrived.now (handed (flat_map line_of c.args.ins.now) c.args.loaded.now))
