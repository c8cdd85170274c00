use Rattle.vehicle_release.proofs.MadeFacts.{IsMade}
use Rattle.vehicle_release.proofs.trips.trips_by_row.Given as goal

abbrev pub invariant-loop-cell : goal.invariant-loop-cell
invariant-loop-cell l = IsMade l.cells l.cell-index l.trips.items l.volume
