use Rattle.std.proofs.Common.{◌≡◌, map, take}
use Rattle.dta_model.specs.Lent.{plan_of}
use Rattle.dta_model.specs.Plans.{link_numbers}
use Rattle.node_transfer.specs.Inside.StartCells.{start_in}
use Rattle.node_transfer.proofs.start.links.start_ins.Given as goal

abbrev pub invariant-loop-i : goal.invariant-loop-i
invariant-loop-i l = l.in_links.items ≡ map (start_in (plan_of l.loading) (link_numbers l.outs)) (link_numbers (take l.i l.ins))
