-- Who takes the walk that is chosen by costs of whole trips.
use Rattle.std.specs.Prelude.{ℕ, ◌+◌, ◌*◌, ◌%◌, nat_eq, Bool}
use Rattle.trip_costs.specs.declared.changes.TheConstants.{PER_ITERATION, PER_VEHICLE, PRIME}

-- a number of a vehicle and an iteration, below the prime
abbrev pub mixed : ℕ → ℕ → ℕ
mixed vehicle k = (PER_VEHICLE * vehicle + PER_ITERATION * k + 1) % PRIME

-- whether a vehicle takes its chosen walk after iteration k: about one in k + 1 of all vehicles
-- does, and others after each iteration
abbrev pub changes_after : ℕ → ℕ → Bool
changes_after vehicle k =
    nat_eq (mixed vehicle k * mixed vehicle k % PRIME % (k + 1)) 0
