use Rattle.std.specs.Prelude.{All, map}
use Rattle.std.proofs.Common.{◌∙◌, ap, arith, subst, sym, take}
use Rattle.std.proofs.lemmas.List.Elements.{All-drop, All-take}
use Rattle.std.proofs.lemmas.List.Sums.{sum_by-take-drop}
use Rattle.cell_stages.specs.declared.in_link.InLink.{InLink}
use Rattle.node_transfer.specs.Inside.Cells.{IsShut}
use Rattle.node_transfer.specs.Inside.Lengths.{line_length}
use Rattle.node_transfer.specs.Inside.Outs.{opened_out}
use Rattle.node_transfer.specs.Inside.Pass.{Rides, out_links, waitings}
use Rattle.node_transfer.proofs.OfStep.Steps.{can_cross, due_under_way}
use Rattle.node_transfer.proofs.step.transfer.transfer_links.Goals as goal

pub pass_links-requires : goal.pass_links-requires
pass_links-requires c =
    let can = can_cross c.args.step _ c.requires in
    let k = c.start_place-start.result in
    let rides = All-drop (λ link. All (Rides (out_links (map (opened_out c.args.step) c.args.outs.now))) link.line) k c.args.ins.now can.rides in
    let parts = sum_by-take-drop line_length c.args.ins.now k in
    let shut = All-drop (λ (link : InLink). IsShut link.exit) k c.args.ins.now can.shut in
    let fits = can.fits in
    rw (c.split_at_mut-front.ensures.back, c.open_outs.ensures) (record { rides = rides; shut = shut; fits = omega (arith, fits, parts) })

pub pass_links-requires-2 : goal.pass_links-requires-2
pass_links-requires-2 c =
    let can = can_cross c.args.step _ c.requires in
    let k = c.start_place-start.result in
    let links = c.pass_links.ensures.links ∙ ap (λ os. out_links os) c.open_outs.ensures in
    let rides = All-take (λ link. All (Rides (out_links (map (opened_out c.args.step) c.args.outs.now))) link.line) k c.args.ins.now can.rides in
    let parts = sum_by-take-drop line_length c.args.ins.now k in
    let fits = can.fits in
    let total = rw (c.split_at_mut-front.ensures.back, c.open_outs.ensures) at c.pass_links.ensures.total in
    rw c.split_at_mut-front.ensures.front (record {
      rides = subst (λ ls. All (λ link. All (Rides ls) link.line) (take k c.args.ins.now)) (sym links) rides;
      shut = All-take (λ (link : InLink). IsShut link.exit) k c.args.ins.now can.shut;
      fits = omega (arith, fits, parts, total);
    })

pub close_outs-requires-clause-under_way : goal.close_outs-requires-clause-under_way
close_outs-requires-clause-under_way c =
    due_under_way c.args.step c.args.outs.now c.pass_links-2.new.outs c.requires.waits
    (c.pass_links-2.ensures.waits ∙ c.pass_links.ensures.waits ∙ ap (λ os. waitings os) c.open_outs.ensures)
