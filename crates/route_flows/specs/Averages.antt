-- Routes by successive averages.
use Rattle.std.specs.Prelude.{◌≡◌, ◌⊎◌, ℕ, ◌+◌, ◌<◌, ◌≤◌, true, false, List, length, Option, Some}
use Rattle.std.specs.Prelude.{slice_get}
use Rattle.net_core.specs.declared.rows.LinkNo.{LinkNo}
use Rattle.net_core.specs.declared.rows.NetRows.{NetRows}
use Rattle.dta_model.specs.declared.trip.Trip.{Trip}
use Rattle.trip_costs.specs.LoadingCosts.{kind_of}
use Rattle.trip_costs.specs.Timings.{Links, Timing}
use Rattle.trip_costs.specs.declared.loading_costs.Costs.{Costs}
use Rattle.time_routes.specs.Destinations.{WalkOf}
use Rattle.start_table.specs.Starts.{HasNoStart, IsStarted}
use Rattle.start_table.specs.declared.rows.StartRow.{StartRow}
use Rattle.route_flows.specs.Selection.{free_time, renews}

-- each vehicle has the chosen walk from its departure, and no route exactly where there is no walk
pub record AreChosenRoutes (costs : Timing) (net : NetRows) (trips : List Trip)
    (routes : List (Option (List LinkNo))) : Type 0 where
  pub as_many : length routes ≡ length trips
  pub each : (v : ℕ) (trip : Trip) (route : Option (List LinkNo)) → slice_get trips v ≡ Some trip
      → slice_get routes v ≡ Some route → WalkOf costs net trip route

-- the routes of the first iteration: those by free-flow steps
abbrev pub AreFirstRoutes : NetRows → List Trip → List (Option (List LinkNo)) → Type 0
AreFirstRoutes net trips routes = AreChosenRoutes (Links (free_time net)) net trips routes

-- the first route of a vehicle: the walk of a row of a start table that fits it, or its chosen
-- walk where no row does
abbrev pub StartsOn : Timing → NetRows → List StartRow → Trip → Option (List LinkNo) → Type 0
StartsOn costs net start trip route =
    ((walk : List LinkNo) × (route ≡ Some walk) × IsStarted net start trip walk)
    ⊎ (HasNoStart net start trip × WalkOf costs net trip route)

-- each vehicle has its first route; without a row all have their chosen walks
pub record AreStartedBy (costs : Timing) (net : NetRows) (start : List StartRow)
    (trips : List Trip) (routes : List (Option (List LinkNo))) : Type 0 where
  pub as_many : length routes ≡ length trips
  pub each : (v : ℕ) (trip : Trip) (route : Option (List LinkNo)) → slice_get trips v ≡ Some trip
      → slice_get routes v ≡ Some route → StartsOn costs net start trip route

-- the routes of the first iteration from a start table
abbrev pub AreStartedRoutes : NetRows → List StartRow → List Trip → List (Option (List LinkNo))
    → Type 0
AreStartedRoutes net start trips routes =
    AreStartedBy (Links (free_time net)) net start trips routes

-- the routes of the iteration after k: the vehicles that are selected have their chosen walks by
-- the costs of iteration k, and the others keep what they had
pub record AreNextRoutes (costs : Timing) (net : NetRows) (trips : List Trip) (k : ℕ)
    (old new : List (Option (List LinkNo))) : Type 0 where
  pub as_many : length new ≡ length trips
  pub selected : (v : ℕ) (trip : Trip) (route : Option (List LinkNo))
      → renews (kind_of costs) k v ≡ true → slice_get trips v ≡ Some trip
      → slice_get new v ≡ Some route → WalkOf costs net trip route
  pub others : (v : ℕ) → renews (kind_of costs) k v ≡ false → slice_get new v ≡ slice_get old v

-- the iteration after k is the last one, of so many, for which a vehicle takes its chosen walk
-- anew
pub record IsLastRenewal (by : Costs) (v iterations k : ℕ) : Type 0 where
  pub least : 1 ≤ k
  pub most : k < iterations
  pub selected : renews by k v ≡ true
  pub last : (later : ℕ) → k < later → later < iterations → renews by later v ≡ false

-- a vehicle keeps its first route in all of so many iterations
abbrev pub KeepsFirst : Costs → ℕ → ℕ → Type 0
KeepsFirst by v iterations = (k : ℕ) → 1 ≤ k → k < iterations → renews by k v ≡ false

-- the number of a first route: 0 where a row of a start table has it, and otherwise 1
abbrev pub IsFirstNumber : NetRows → List StartRow → Trip → ℕ → Type 0
IsFirstNumber net start trip n =
    ((n ≡ 0) × ((walk : List LinkNo) × IsStarted net start trip walk))
    ⊎ ((n ≡ 1) × HasNoStart net start trip)

-- the iteration in which a vehicle last took the route that it has after so many, also where it is
-- the route that it had
abbrev pub IsSince : Costs → NetRows → List StartRow → ℕ → ℕ → Trip → ℕ → Type 0
IsSince by net start iterations v trip n =
    ((k : ℕ) × (n ≡ k + 1) × IsLastRenewal by v iterations k)
    ⊎ (KeepsFirst by v iterations × IsFirstNumber net start trip n)

-- that iteration for each vehicle
pub record AreSince (by : Costs) (net : NetRows) (start : List StartRow) (trips : List Trip)
    (iterations : ℕ) (numbers : List ℕ) : Type 0 where
  pub as_many : length numbers ≡ length trips
  pub each : (v : ℕ) (trip : Trip) (n : ℕ) → slice_get trips v ≡ Some trip
      → slice_get numbers v ≡ Some n → IsSince by net start iterations v trip n
