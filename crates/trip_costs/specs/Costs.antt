-- The costs that are kept: entries of first links, and exits. The tables by which walks are timed.
use Rattle.std.specs.Prelude.{ℕ, ◌+◌}
use Rattle.dta_model.specs.LinkTimes.{TimeTable, time_at}
use Rattle.dta_model.specs.declared.loading.TheConstants.{MOST_HORIZON}
use Rattle.fixed_units.specs.declared.turn.TheConstants.{MOST_PENALTY_STEPS}
use Rattle.trip_costs.specs.Entries.{EntryTable, entry_at}
use Rattle.trip_costs.specs.Timings.{Links, Timing, Trips}
use Rattle.trip_costs.specs.TripCosts.{TravelCosts, steps_by_trips}
use Rattle.trip_costs.specs.declared.costs.TripCosts.{TripCosts}
use Rattle.trip_costs.specs.declared.loading_costs.LoadingCosts.{LoadingCosts}
use Rattle.trip_costs.specs.declared.loading_costs.LoadingCosts.TheVariants as costs

-- what walks are timed by
abbrev pub costs_of : TripCosts → TravelCosts
costs_of c = record { enter = entry_at c.entries; at = steps_by_trips c.exits }

-- no link of a walk takes more steps than this, with the penalty of the turn to the next
abbrev pub most_of_a_link : ℕ
most_of_a_link = MOST_HORIZON + MOST_PENALTY_STEPS

-- the tables by which either costs are told: of link times, and of entries beside them
pub data CostTables : Type 0 where
  OfLinks : TimeTable → CostTables
  OfTrips : EntryTable → TimeTable → CostTables

abbrev pub timing_of : CostTables → Timing
timing_of (OfLinks t) = Links (time_at t)
timing_of (OfTrips e t) = Trips (record { enter = entry_at e; at = steps_by_trips t })

-- of the costs of a loading the link times that are kept, and the costs that are told
abbrev pub times_in : LoadingCosts → TimeTable
times_in (costs.Links times) = times
times_in (costs.Trips trips) = trips.exits

abbrev pub timing_in : LoadingCosts → Timing
timing_in (costs.Links times) = Links (time_at times)
timing_in (costs.Trips trips) = Trips (costs_of trips)
