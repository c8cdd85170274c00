use Rattle.vehicle_release.proofs.SumsFacts.{IsCounted}
use Rattle.scaled_demand.specs.Scales.{scaled}
use Rattle.scaled_demand.proofs.limits.check_scale.Given as goal

abbrev pub invariant-loop-cell : goal.invariant-loop-cell
invariant-loop-cell l = IsCounted (scaled l.scale l.cells) l.cell-index l.volume
