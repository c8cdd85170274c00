use Rattle.std.proofs.Common.{◌≡◌, ◌≤◌, length}
use Rattle.node_transfer.specs.Inside.Pass.{passed, CanPass, total, out_links, waitings}
use Rattle.node_transfer.proofs.step.in_link.pass_link.Given as goal

abbrev pub invariant-loop : goal.invariant-loop
invariant-loop l =
    CanPass l.link.line l.outs l.arrived
    × (out_links l.outs ≡ out_links l.initial.outs)
    × (waitings l.outs ≡ waitings l.initial.outs)
    × (total l.link.line l.outs l.arrived ≤ total l.initial.link.line l.initial.outs l.initial.arrived)
    × (passed l.step l.initial.link.line l.initial.link.exit l.initial.outs l.initial.arrived ≡ passed l.step l.link.line l.link.exit l.outs l.arrived)
    × (l.link ≡ record l.initial.link { line = l.link.line; exit = l.link.exit })

abbrev pub decreases-loop : goal.decreases-loop
decreases-loop l = length l.link.line
