-- What a gate tells: how many receipts it took, and the numbers of the last one.
use Rattle.std.specs.Prelude.{ℕ, ◌+◌, min, Option, None, Some}
use Rattle.desk_io.specs.Faults.{last_count}
use Rattle.dta_model.specs.Plans.{vehicle_count}
use Rattle.dta_model.specs.Units.{unit_count}
use Rattle.dta_model.specs.declared.plan.Plan.{Plan}
use Rattle.phase_claims.specs.declared.receipt.Receipt.{Receipt}

-- the numbers of a receipt: the units that were performed, the passes, and the vehicles
pub record Numbers : Type 0 where
  pub units : ℕ
  pub passes : ℕ
  pub vehicles : ℕ

abbrev pub numbers_of : Receipt → Numbers
numbers_of receipt =
    record { units = receipt.units; passes = receipt.passes; vehicles = receipt.vehicles }

-- the numbers of the receipt of a loading by so many workers
abbrev pub numbers_by : Plan → ℕ → Numbers
numbers_by p workers =
    record { units = unit_count p; passes = workers; vehicles = vehicle_count p }

-- one receipt more, where the number of receipts is told: it stands still at the last value of a
-- counter
abbrev pub one_more : Option ℕ → Option ℕ
one_more None = None
one_more (Some n) = Some (min (n + 1) last_count)

-- these numbers, where numbers are told
abbrev pub told_as : Numbers → Option Numbers → Option Numbers
told_as numbers None = None
told_as numbers (Some old) = Some numbers

-- all that a clause sees of a gate: how many receipts it took, and the numbers of the last one
pub record GateState : Type 0 where
  pub closes : Option ℕ
  pub last : Option Numbers

abbrev pub gate_of : {G : Type 0} → (G → Option ℕ) → (G → Option Numbers) → G → GateState
gate_of closes last gate = record { closes = closes gate; last = last gate }

-- the gate took a receipt with these numbers
abbrev pub taking : Numbers → GateState → GateState
taking numbers gate =
    record { closes = one_more gate.closes; last = told_as numbers gate.last }
