use Rattle.std.proofs.Common.{◌≡◌, ◌++◌, take, drop}
use Rattle.vehicle_release.specs.Unnumbered.{renumbered}
use Rattle.vehicle_release.proofs.trips.number_in_order.Given as goal

abbrev pub invariant-loop-place : goal.invariant-loop-place
invariant-loop-place l = l.trips ≡ renumbered 0 (take l.place l.fn.trips) ++ drop l.place l.fn.trips
