use Rattle.std.proofs.Common.{◌≡◌, ◌≤◌, take, drop}
use Rattle.node_transfer.specs.Inside.Pass.{out_links, waitings}
use Rattle.node_transfer.specs.Inside.Cells.{passed_links, CanCross, cell_total}
use Rattle.node_transfer.proofs.OfStep.Crossings.{behind}
use Rattle.node_transfer.proofs.step.in_link.pass_links.Given as goal

abbrev pub invariant-loop-i : goal.invariant-loop-i
invariant-loop-i l =
    CanCross l.ins l.outs l.arrived
    × (out_links l.outs ≡ out_links l.initial.outs)
    × (waitings l.outs ≡ waitings l.initial.outs)
    × (cell_total l.ins l.outs l.arrived ≤ cell_total l.initial.ins l.initial.outs l.initial.arrived)
    × (passed_links l.step l.initial.ins l.initial.outs l.initial.arrived ≡ behind (take l.i l.ins) (passed_links l.step (drop l.i l.ins) l.outs l.arrived))
