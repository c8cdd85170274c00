-- By what walks are timed, and what is true of the steps of links by either costs.
use Rattle.std.specs.Prelude.{◌≡◌, ℕ, ◌<◌, ◌≤◌, ◌^◌, length, slice_index}
use Rattle.dta_model.specs.LinkTimes.{TimeTable}
use Rattle.trip_costs.specs.Timings.{Timing, travel}
use Rattle.trip_costs.specs.Costs.{CostTables, OfLinks, OfTrips, timing_of}
use Rattle.trip_costs.specs.TripCosts.{IsLevelBy}
use Rattle.trip_costs.specs.declared.walk_costs.WalkCosts.{WalkCosts}
use Rattle.trip_costs.specs.declared.walk_costs.WalkCosts.TheVariants as costs

-- the table of link times
abbrev pub table_in : WalkCosts → TimeTable
table_in (costs.Links times) = times.now
table_in (costs.Trips trips) = trips.now.exits

-- the tables, and the costs that they tell
abbrev pub tables : WalkCosts → CostTables
tables (costs.Links times) = OfLinks times.now
tables (costs.Trips trips) = OfTrips trips.now.entries trips.now.exits

abbrev pub timing : WalkCosts → Timing
timing c = timing_of (tables c)

-- the step in which who starts in a step enters a first link, and the steps that a link takes who
-- enters it in a step
abbrev pub enter_in : WalkCosts → ℕ → ℕ → ℕ
enter_in c = (travel (timing c)).enter

abbrev pub steps_in : WalkCosts → ℕ → ℕ → ℕ
steps_in c = (travel (timing c)).at

-- each link takes time, and from the horizon on its free-flow steps; no number is wider than 32
-- bits
pub record AreSteps (t : TimeTable) (at : ℕ → ℕ → ℕ) : Type 0 where
  pub late : (l s : ℕ) → t.horizon ≤ s → at l s ≡ slice_index t.free l
  pub least : (l s : ℕ) → l < length t.free → 1 ≤ at l s
  pub most : (l s : ℕ) → l < length t.free → at l s < 2 ^ 32
  pub horizon : t.horizon < 2 ^ 32

-- the steps of links by either costs are so
abbrev pub AreTimed : WalkCosts → Type 0
AreTimed c = AreSteps (table_in c) (steps_in c)

-- a link takes as many steps in each step of a bucket
abbrev pub IsLevel : WalkCosts → ℕ → ℕ → Type 0
IsLevel c = IsLevelBy (steps_in c) (table_in c)
