use Rattle.std.proofs.Common.{◌≡◌, None, replicate}
use Rattle.time_routes.proofs.vehicles.Told.none.Given as goal

abbrev pub invariant-loop : goal.invariant-loop
invariant-loop l = (l.leasts.items ≡ replicate l.counter None) × (l.walks.items ≡ replicate l.counter None)
