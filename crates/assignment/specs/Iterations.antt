-- The iterations of an assignment: routes, loadings, tables of link times and gaps (successive
-- averages over loadings, Zhou and Taylor 2014), and what is true of each.
use Rattle.std.specs.Prelude.{ℕ, zero, suc, ◌≡◌, ◌+◌, ◌-◌, List, length, Some, slice_get}
use Rattle.trip_costs.specs.Timings.{Timing}
use Rattle.gap.specs.Gap.{IsGapLine}
use Rattle.gap.specs.declared.line.GapLine.{GapLine}
use Rattle.route_flows.specs.Averages.{AreNextRoutes, AreStartedRoutes}
use Rattle.start_table.specs.Starts.{AreStartRows}
use Rattle.dta_words.specs.declared.command.Settings.{Settings}
use Rattle.assignment.specs.Assignment.{Traffic, VehicleRoutes, costs_of, plan_of}
use Rattle.assignment.specs.Traffic.{IsSoundLoading}

-- the routes of iterations one after another, and their gaps, where the loading over routes has
-- these costs
pub record AreIterationsBy (costs : VehicleRoutes → Timing) (traffic : Traffic)
    (routes : List VehicleRoutes) (lines : List GapLine) : Type 0 where
  -- an agent has one row of the start table
  pub start : AreStartRows traffic.start
  -- the first routes are the walks of the rows that fit, and else the chosen walks by free-flow
  -- steps; without a start table no row is there
  pub first :
      (r : VehicleRoutes) → slice_get routes 0 ≡ Some r
      → AreStartedRoutes traffic.net traffic.start traffic.trips r
  -- after iteration i some vehicles take their chosen walks by its costs, and the others stay
  pub next :
      (i : ℕ) (old new : VehicleRoutes) → slice_get routes i ≡ Some old
      → slice_get routes (i + 1) ≡ Some new
      → AreNextRoutes (costs old) traffic.net traffic.trips (i + 1) old new
  -- each gap is that of an iteration's routes by its own costs
  pub gaps :
      (i : ℕ) (r : VehicleRoutes) (line : GapLine) → slice_get routes i ≡ Some r
      → slice_get lines i ≡ Some line
      → IsGapLine (costs r) traffic.net traffic.trips r line

-- the same by the loadings of this traffic
abbrev pub AreIterations :
    Settings → Traffic → List VehicleRoutes → List GapLine → Type 0
AreIterations s traffic routes lines = AreIterationsBy (costs_of s traffic) traffic routes lines

-- all iterations of an assignment with so many, where the loading over routes has these costs:
-- their routes and gaps, and those of the last one
pub record AllIterations (count : ℕ) (costs : VehicleRoutes → Timing) (traffic : Traffic)
    : Type 0 where
  pub routes : List VehicleRoutes
  pub lines : List GapLine
  pub last : VehicleRoutes
  pub line : GapLine
  pub iterations : AreIterationsBy costs traffic routes lines
  pub as_many : length routes ≡ count
  pub with_gaps : length lines ≡ count
  pub last_routes : slice_get routes (count - 1) ≡ Some last
  pub last_line : slice_get lines (count - 1) ≡ Some line

-- where the routes at a place of a list of iterations come from: the first ones are the walks of
-- the start table's rows that fit, and else chosen walks by free-flow steps; of later ones some
-- are chosen walks by the costs of the iteration before, and the others are as they were
abbrev pub ComeFrom : Settings → Traffic → List VehicleRoutes → (place : ℕ) → VehicleRoutes → Type 0
ComeFrom s traffic all zero routes =
    AreStartedRoutes traffic.net traffic.start traffic.trips routes
ComeFrom s traffic all (suc i) routes =
    (before : VehicleRoutes) × (slice_get all i ≡ Some before)
    × AreNextRoutes (costs_of s traffic before) traffic.net traffic.trips (i + 1) before routes

-- an iteration: where its routes come from, the loading over them, and their gap by the costs
-- of that loading
pub record IsIteration (s : Settings) (traffic : Traffic) (all : List VehicleRoutes) (place : ℕ)
    (routes : VehicleRoutes) (line : GapLine) : Type 0 where
  pub chosen : ComeFrom s traffic all place routes
  pub loading : IsSoundLoading (plan_of s traffic routes)
  pub gap : IsGapLine (costs_of s traffic routes) traffic.net traffic.trips routes line

-- each iteration over this traffic is one
abbrev pub AreSoundIterations : Settings → Traffic → Type 0
AreSoundIterations s traffic =
    (all : List VehicleRoutes) (lines : List GapLine)
    → AreIterations s traffic all lines
    → (place : ℕ) (routes : VehicleRoutes) (line : GapLine) → slice_get all place ≡ Some routes
    → slice_get lines place ≡ Some line → IsIteration s traffic all place routes line
