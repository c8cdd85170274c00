use Rattle.std.proofs.Common.{◌≡◌, ◌++◌, length, drop}
use Rattle.dta_model.specs.Lent.{plan_of}
use Rattle.dta_model.specs.Plans.{link_numbers}
use Rattle.node_transfer.specs.Inside.StartCells.{lines_left, taken_outs}
use Rattle.node_transfer.proofs.start.links.start_outs.Given as goal

abbrev pub invariant-loop-i : goal.invariant-loop-i
invariant-loop-i l =
    (l.out_links.items ++ taken_outs (plan_of l.loading) l.lines (drop l.i (link_numbers l.outs))
    ≡ taken_outs (plan_of l.loading) l.initial.lines (link_numbers l.outs))
    × (lines_left l.lines (drop l.i (link_numbers l.outs)) ≡ lines_left l.initial.lines (link_numbers l.outs))
    × (length l.lines ≡ length l.initial.lines)
