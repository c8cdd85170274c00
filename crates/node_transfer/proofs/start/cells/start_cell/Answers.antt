use Rattle.std.proofs.Common.{◌∙◌, ap, refl}
use Rattle.dta_model.specs.Lent.{plan_of}
use Rattle.dta_model.specs.Plans.{ins, link_numbers, outs}
use Rattle.node_transfer.specs.Inside.StartCells.{lines_left}
use Rattle.node_transfer.proofs.OfStart.Starts.{ins_below, outs_below, numbers_of_links}
use Rattle.node_transfer.proofs.start.cells.start_cell.Goals as goal

pub start_outs-requires-clause-links : goal.start_outs-requires-clause-links
start_outs-requires-clause-links c = rw c.outs-outs.ensures (outs_below (plan_of c.args.loading.now) c.args.node.0)

pub start_ins-requires-clause-ins : goal.start_ins-requires-clause-ins
start_ins-requires-clause-ins c = rw c.ins.ensures (ins_below (plan_of c.args.loading.now) c.args.node.0)

pub start_ins-requires-clause-outs : goal.start_ins-requires-clause-outs
start_ins-requires-clause-outs c = rw c.outs-outs.ensures (outs_below (plan_of c.args.loading.now) c.args.node.0)

pub returns-clause-cell : goal.returns-clause-cell
returns-clause-cell c =
    let p = plan_of c.args.loading.now in
    let bs = ap (λ xs. link_numbers xs) c.outs-outs.ensures ∙ numbers_of_links (outs p c.args.node.0) in
    let ls = ap (λ xs. link_numbers xs) c.ins.ensures ∙ numbers_of_links (ins p c.args.node.0) in
    c.in_ok-cell.ensures
    ∙ rw (c.in_ok-in_links.ensures, c.in_ok-out_links.ensures.taken, bs, ls) refl

pub returns-clause-left : goal.returns-clause-left
returns-clause-left c =
    let p = plan_of c.args.loading.now in
    c.in_ok-out_links.ensures.left ∙ ap (λ xs. lines_left c.args.lines.now xs) (ap (λ xs. link_numbers xs) c.outs-outs.ensures ∙ numbers_of_links (outs p c.args.node.0))
