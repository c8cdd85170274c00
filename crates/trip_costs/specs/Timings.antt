-- The two costs by which walks are timed: of links, and of whole trips.
use Rattle.std.specs.Prelude.{ℕ, List}
use Rattle.net_core.specs.declared.rows.NetRows.{NetRows}
use Rattle.dta_model.specs.TimedWalks.{walk_time}
use Rattle.trip_costs.specs.TripCosts.{TravelCosts, by_links, time_by}

pub data Timing : Type 0 where
  -- over the steps that links take
  Links : (ℕ → ℕ → ℕ) → Timing
  -- over the steps of first entries, and those that links take
  Trips : TravelCosts → Timing

-- when first links are entered, and how many steps links take
abbrev pub travel : Timing → TravelCosts
travel (Links at) = by_links at
travel (Trips costs) = costs

-- the time of a walk that starts in a step
abbrev pub walk_time_by : Timing → NetRows → ℕ → List ℕ → ℕ
walk_time_by (Links at) = walk_time at
walk_time_by (Trips costs) = time_by costs
