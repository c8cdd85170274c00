-- A router over the costs by which walks are timed.
use Rattle.std.specs.Prelude.{ℕ, length}
use Rattle.trip_costs.specs.WalkCosts.{steps_in, table_in}
use Rattle.labels.specs.declared.filling.timed_router.TimedRouter.{TimedRouter}

-- the steps that a link takes who enters it in a step
abbrev pub time_in : TimedRouter → ℕ → ℕ → ℕ
time_in t = steps_in t.costs

-- the horizon, and how many states there are
abbrev pub horizon_of : TimedRouter → ℕ
horizon_of t = (table_in t.costs).horizon

abbrev pub states_of : TimedRouter → ℕ
states_of t = length t.router.now.zones.items
