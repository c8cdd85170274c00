use Rattle.std.proofs.Common.{◌≡◌, drop, map}
use Rattle.std.specs.Prelude.{All}
use Rattle.node_transfer.specs.Gathered.{gathered_link}
use Rattle.node_transfer.specs.Inside.Cells.{CanGather}
use Rattle.node_transfer.proofs.OfStep.Maps.{mapped_from}
use Rattle.node_transfer.proofs.step.in_link.gather_links.Given as goal

abbrev pub invariant-loop-i : goal.invariant-loop-i
invariant-loop-i l = All CanGather (drop l.i l.ins) × (mapped_from (gathered_link l.step) l.i l.ins ≡ map (gathered_link l.step) l.initial.ins)
