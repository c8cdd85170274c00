-- Filled labels serve walks to their zone.
use Rattle.std.proofs.Common.{◌≡◌, ℕ, ◌<◌, ◌≤◌, length, List, Option, Some, None, Result, Ok, Err, Bor, arith}
use Rattle.std.specs.Prelude.{IfOk, MatchOption}
use Rattle.net_core.specs.Network.{IsNet, zones}
use Rattle.net_core.specs.declared.rows.NetRows.{NetRows}
use Rattle.dta_model.specs.Plans.{link_numbers}
use Rattle.dta_model.specs.Least.{HaveNoWalk}
use Rattle.dta_model.specs.LinkTimes.{TimeTable, time_at}
use Rattle.link_times.specs.declared.table.LinkTimes.{LinkTimes}
use Rattle.trip_costs.specs.Timings.{Timing, Links, Trips, travel}
use Rattle.trip_costs.specs.TripWalks.{IsLeastBy}
use Rattle.trip_costs.specs.Costs.{costs_of}
use Rattle.trip_costs.specs.declared.costs.TripCosts.{TripCosts}
use Rattle.trip_costs.specs.declared.walk_costs.WalkCosts.TheVariants as costs
use Rattle.trip_costs.proofs.Timed.{later_by}
use Rattle.labels.specs.ToZone.{TellsFound}
use Rattle.labels.specs.declared.reading.found.Walk.{Walk}
use Rattle.trip_costs.specs.WalkCosts.{AreSteps, enter_in, steps_in}
use Rattle.trip_costs.specs.declared.walk_costs.WalkCosts.{WalkCosts}
use Rattle.labels.specs.Filling.Labels.{most_left, most_span}
use Rattle.labels.specs.Named.{zone_named}
use Rattle.labels.specs.Reading.Paths.{path_time, IsLeastPath, IsChosenPath, IsFewestPath}
use Rattle.labels.specs.States.Routers.{begins_from, ways_to}
use Rattle.labels.specs.Reading.Serves.{AreLeft, IsRouter, Serves}
use Rattle.labels.specs.declared.states.router.Router.{Router}
use Rattle.labels.proofs.OfReading.Bridges.{least_walk, least_by_links, no_walk, chosen_walk, fewest_walk}
use Rattle.labels.proofs.OfStates.RouterFacts.{penalty-in, turned}

pub serves_of : (net : NetRows) (t : TimeTable) (at : ℕ → ℕ → ℕ) (r : Router) (rest : ℕ → ℕ → ℕ) (zone : ℕ) → IsNet net → AreSteps t at → length t.free ≡ length net.links → zone < length (zones net.nodes) → IsRouter net r → AreLeft at rest r zone → Serves net zone at rest r
serves_of net t at r rest zone sound table links small router left = record {
  routes = router.routes zone at small;
  rests = left.left;
  most = most_left;
  longest = most_span;
  near = left.near;
  short = λ l e b wait h. (
      let way = turned net l b wait h in
      let p = penalty-in net l b (way.2) sound (way.3) in
      let m = table.most b e (omega (arith, way.1, links)) in
      omega (arith, p, m, way.4));
  room = omega arith;
  takes_time = λ l e h. (let m = table.least l e (omega (arith, h, links, router.many)) in omega (arith, m));
}

-- the least time by either costs
least_by : (net : NetRows) (by : Timing) → ((l s : ℕ) → s ≤ (travel by).enter l s) → (zone origin step m : ℕ) → IsLeastPath (ways_to (travel by).at net zone) (travel by).enter (begins_from net origin) step m
    → IsLeastBy by net (zone_named net origin) (zone_named net zone) step m
least_by net (Links at) later zone origin step m h = least_by_links at net zone origin step m (least_walk at net zone (λ l s. s) later origin step m h)
least_by net (Trips costs) later zone origin step m h = least_walk costs.at net zone costs.enter later origin step m h

pub least_told : (net : NetRows) (by : Timing) → ((l s : ℕ) → s ≤ (travel by).enter l s) → (zone origin step : ℕ) (result : Option ℕ)
    → MatchOption result ((w : List ℕ) → path_time (ways_to (travel by).at net zone) (travel by).enter (begins_from net origin) step w ≡ None) (λ m. IsLeastPath (ways_to (travel by).at net zone) (travel by).enter (begins_from net origin) step m)
    → MatchOption result (HaveNoWalk net (zone_named net origin) (zone_named net zone)) (λ m. IsLeastBy by net (zone_named net origin) (zone_named net zone) step m)
least_told net by later zone origin step None h = no_walk (travel by).at net zone (travel by).enter later origin step h
least_told net by later zone origin step (Some m) h = least_by net by later zone origin step m h

-- the walk that comes first with its time, as a path over costs, or that there is none
abbrev pub ChosenPaths : WalkCosts → NetRows → ℕ → ℕ → ℕ → Option Walk → Type 0
ChosenPaths c net zone origin step found =
    MatchOption found ((w : List ℕ) → path_time (ways_to (steps_in c) net zone) (enter_in c) (begins_from net origin) step w ≡ None)
    (λ walk. IsLeastPath (ways_to (steps_in c) net zone) (enter_in c) (begins_from net origin) step walk.time × IsChosenPath (ways_to (steps_in c) net zone) (enter_in c) (begins_from net origin) step (link_numbers walk.route))

-- that of those with the fewest links
abbrev pub FewestPaths : WalkCosts → NetRows → ℕ → ℕ → ℕ → Option Walk → Type 0
FewestPaths c net zone origin step found =
    MatchOption found ((w : List ℕ) → path_time (ways_to (steps_in c) net zone) (enter_in c) (begins_from net origin) step w ≡ None)
    (λ walk. IsLeastPath (ways_to (steps_in c) net zone) (enter_in c) (begins_from net origin) step walk.time × IsFewestPath (ways_to (steps_in c) net zone) (enter_in c) (begins_from net origin) step (link_numbers walk.route))

-- over a table of link times the first is the chosen walk
chosen_in : (net : NetRows) (times : Bor LinkTimes) (zone origin step : ℕ) (found : Option Walk) → ChosenPaths (costs.Links times) net zone origin step found
    → TellsFound (Links (time_at times.now)) net (zone_named net origin) (zone_named net zone) step found
chosen_in net times zone origin step None h = no_walk (time_at times.now) net zone (λ l s. s) (λ l s. omega arith) origin step h
chosen_in net times zone origin step (Some walk) h = (
  least_by_links (time_at times.now) net zone origin step walk.time (least_walk (time_at times.now) net zone (λ l s. s) (λ l s. omega arith) origin step walk.time h.0),
  chosen_walk (time_at times.now) net zone origin step (link_numbers walk.route) h.1,
)

pub chosen_told : {E : Type 0} (net : NetRows) (times : Bor LinkTimes) (zone origin step : ℕ) (result : Result (Option Walk) E) → IfOk result (ChosenPaths (costs.Links times) net zone origin step)
    → IfOk result (TellsFound (Links (time_at times.now)) net (zone_named net origin) (zone_named net zone) step)
chosen_told net times zone origin step (Ok found) h = chosen_in net times zone origin step found h
chosen_told net times zone origin step (Err e) h = tt

-- by whole trips the second is
fewest_in : (net : NetRows) (trips : Bor TripCosts) (zone origin step : ℕ) (found : Option Walk) → FewestPaths (costs.Trips trips) net zone origin step found
    → TellsFound (Trips (costs_of trips.now)) net (zone_named net origin) (zone_named net zone) step found
fewest_in net trips zone origin step None h = no_walk (costs_of trips.now).at net zone (costs_of trips.now).enter (later_by (costs.Trips trips)) origin step h
fewest_in net trips zone origin step (Some walk) h = (
  least_walk (costs_of trips.now).at net zone (costs_of trips.now).enter (later_by (costs.Trips trips)) origin step walk.time h.0,
  fewest_walk (costs_of trips.now).at net zone (costs_of trips.now).enter (later_by (costs.Trips trips)) origin step (link_numbers walk.route) h.1,
)

pub fewest_told : {E : Type 0} (net : NetRows) (trips : Bor TripCosts) (zone origin step : ℕ) (result : Result (Option Walk) E) → IfOk result (FewestPaths (costs.Trips trips) net zone origin step)
    → IfOk result (TellsFound (Trips (costs_of trips.now)) net (zone_named net origin) (zone_named net zone) step)
fewest_told net trips zone origin step (Ok found) h = fewest_in net trips zone origin step found h
fewest_told net trips zone origin step (Err e) h = tt
