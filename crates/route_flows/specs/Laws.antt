-- What is true of the routes of every iteration.
use Rattle.std.specs.Prelude.{◌≡◌, ◌↔◌, ℕ, List, [], Option}
use Rattle.net_core.specs.declared.rows.LinkNo.{LinkNo}
use Rattle.net_core.specs.declared.rows.NetRows.{NetRows}
use Rattle.dta_model.specs.declared.trip.Trip.{Trip}
use Rattle.trip_costs.specs.Timings.{Timing}
use Rattle.trip_costs.specs.declared.loading_costs.Costs.{Costs}
use Rattle.route_flows.specs.Averages.{AreChosenRoutes, AreFirstRoutes, AreNextRoutes, AreSince}
use Rattle.route_flows.specs.Averages.{AreStartedBy, AreStartedRoutes}
use Rattle.start_table.specs.Starts.{AreStartRows}
use Rattle.start_table.specs.declared.rows.StartRow.{StartRow}

-- trips and a table have one list of chosen walks
abbrev pub ChosenAreDetermined : Type 0
ChosenAreDetermined =
    (costs : Timing) (net : NetRows) (trips : List Trip) (a b : List (Option (List LinkNo)))
    → AreChosenRoutes costs net trips a → AreChosenRoutes costs net trips b → a ≡ b

-- and the routes of an iteration have one list of next ones
abbrev pub NextAreDetermined : Type 0
NextAreDetermined =
    (costs : Timing) (net : NetRows) (trips : List Trip) (k : ℕ)
    (old a b : List (Option (List LinkNo)))
    → AreNextRoutes costs net trips k old a → AreNextRoutes costs net trips k old b → a ≡ b

-- trips, a table and a start table have one list of first routes
abbrev pub StartedAreDetermined : Type 0
StartedAreDetermined =
    (costs : Timing) (net : NetRows) (start : List StartRow) (trips : List Trip)
    (a b : List (Option (List LinkNo))) → AreStartRows start
    → AreStartedBy costs net start trips a → AreStartedBy costs net start trips b → a ≡ b

-- without a row they are the first routes
abbrev pub NoRowStartsNobody : Type 0
NoRowStartsNobody =
    (net : NetRows) (trips : List Trip) (routes : List (Option (List LinkNo)))
    → AreStartedRoutes net [] trips routes ↔ AreFirstRoutes net trips routes

-- and vehicles have one list of the iterations since which they have their routes
abbrev pub SinceAreDetermined : Type 0
SinceAreDetermined =
    (by : Costs) (net : NetRows) (start : List StartRow) (trips : List Trip) (iterations : ℕ)
    (a b : List ℕ) → AreSince by net start trips iterations a
    → AreSince by net start trips iterations b → a ≡ b
