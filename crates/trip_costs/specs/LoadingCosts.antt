-- The costs of a loading, of either kind.
use Rattle.std.specs.Prelude.{ℕ}
use Rattle.dta_model.specs.LinkTimes.{TimeTable, table_of, time_at}
use Rattle.dta_model.specs.declared.plan.Plan.{Plan}
use Rattle.trip_costs.specs.OriginWaits.{WaitTable, waits_of}
use Rattle.trip_costs.specs.Timings.{Links, Timing, Trips}
use Rattle.trip_costs.specs.TripCosts.{by_trips}
use Rattle.trip_costs.specs.declared.loading_costs.Costs.{Costs}
use Rattle.trip_costs.specs.declared.loading_costs.Costs.TheVariants as kind

-- of which kind the costs are by which walks are timed
abbrev pub kind_of : Timing → Costs
kind_of (Links at) = kind.Links
kind_of (Trips costs) = kind.Trips

-- the costs of a kind, over a table of link times and one of waits at origins
abbrev pub costs_over : Costs → TimeTable → WaitTable → Timing
costs_over kind.Links t w = Links (time_at t)
costs_over kind.Trips t w = Trips (by_trips t w)

-- those of a loading, by buckets of so many steps
abbrev pub costs_by : Costs → Plan → ℕ → Timing
costs_by by p bucket = costs_over by (table_of p bucket) (waits_of p bucket)
