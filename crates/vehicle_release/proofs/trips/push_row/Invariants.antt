use Rattle.std.proofs.Common.{◌≡◌, ◌++◌, map}
use Rattle.net_core.specs.Network.{numbers_below}
use Rattle.vehicle_release.specs.Unnumbered.{trip_at}
use Rattle.vehicle_release.proofs.trips.push_row.Given as goal

abbrev pub invariant-loop-place : goal.invariant-loop-place
invariant-loop-place l = l.trips.items ≡ l.fn.trips.items ++ map (trip_at l.vehicles l.cell) (numbers_below l.place)
