use Rattle.vehicle_release.proofs.SumsFacts.{IsCounted}
use Rattle.vehicle_release.proofs.sums.all_vehicles.Given as goal

abbrev pub invariant-loop-cell : goal.invariant-loop-cell
invariant-loop-cell l = IsCounted l.cells l.cell-index l.volume
