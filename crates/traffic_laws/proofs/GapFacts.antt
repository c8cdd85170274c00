-- The two sums of a gap, and what it means that they are equal.
use Rattle.std.specs.Prelude.{slice_get}
use Rattle.std.proofs.Common.{◌≡◌, ◌⊎◌, inl, inr, ℕ, zero, suc, ◌+◌, ◌<◌, ◌≤◌, List, length, ap}
use Rattle.std.proofs.Common.{◌∙◌, subst, arith, Option, Some, None, get_or}
use Rattle.std.proofs.lemmas.Bool.{cases_lt}
use Rattle.std.proofs.lemmas.Option.{slice_get-get_or, slice_get_within}
use Rattle.net_core.specs.declared.rows.LinkNo.{LinkNo}
use Rattle.net_core.specs.declared.rows.NetRows.{NetRows}
use Rattle.dta_model.specs.Plans.{link_numbers}
use Rattle.dta_model.specs.declared.trip.Trip.{Trip}
use Rattle.dta_model.proofs.Steady.{some_trip}
use Rattle.trip_costs.specs.LoadingCosts.{costs_by}
use Rattle.trip_costs.specs.Timings.{Timing}
use Rattle.trip_costs.proofs.Timed.{none_less_by, some_walk_by}
use Rattle.gap.specs.Gap.{AreLeasts}
use Rattle.gap.specs.RouteTimes.{over_vehicles, route_time}
use Rattle.gap.proofs.Sums.{over-le, over-more, route_time-is}
use Rattle.assignment.proofs.SoundFacts.{sound-iterations}
use Rattle.traffic_laws.specs.Equilibrium.{AreRoutesOf, GapIsNeverNegative}
use Rattle.traffic_laws.specs.Equilibrium.{GapsAreOfTheirLoadings, IsUserEquilibrium}
use Rattle.traffic_laws.specs.Equilibrium.{NoGapIsEquilibrium, loading_over}

-- where sums are equal whose numbers are no greater one by one, the numbers are equal
over-same : (n : ℕ) (f g : ℕ → ℕ) → ((v : ℕ) → v < n → f v ≤ g v)
    → over_vehicles n g ≤ over_vehicles n f → (v : ℕ) → v < n → g v ≤ f v
over-same zero f g low same v h = absurd (omega (arith, h))
over-same (suc n) f g low same v h =
    let less : (w : ℕ) → w < n → f w ≤ g w = λ w b. low w (omega (arith, b)) in
    let rest = over-le n f g less in
    let here = low n (omega arith) in
    let one = more f in
    let two = more g in
    by (cases_lt v n) (over-same n f g less (omega (arith, rest, here, one, two, same)))
    (omega (arith, rest, here, one, two, same))
  where
    more : (k : ℕ → ℕ) → over_vehicles (suc n) k ≡ over_vehicles n k + k n
    more k = let next : suc n ≡ n + 1 = omega arith in
        ap (λ i. over_vehicles i k) next ∙ over-more n k

    by : (v < n) ⊎ (n ≤ v) → ((w : ℕ) → w < n → g w ≤ f w) → g n ≤ f n → g v ≤ f v
    by (inl b) ih last = ih v b
    by (inr b) ih last =
        let e : n ≡ v = omega (arith, b, h) in subst (λ k. g k ≤ f k) e last

module _ (costs : Timing) (net : NetRows) (trips : List Trip)
    (routes : List (Option (List LinkNo))) (least : ℕ → ℕ)
    (are : AreRoutesOf net trips routes) (leasts : AreLeasts costs net trips routes least) where
  -- a vehicle has a route or none
  route_there : (v : ℕ) (trip : Trip) → slice_get trips v ≡ Some trip
      → (route : Option (List LinkNo)) × (slice_get routes v ≡ Some route)
  route_there v trip t =
      let inside = slice_get_within trips v trip t in
      let each = are.each in
      (get_or routes v None, slice_get-get_or routes v None (omega (arith, inside, each)))

  not_less : (v : ℕ) (trip : Trip) → slice_get trips v ≡ Some trip
      → least v ≤ route_time costs net trips routes v
  not_less v trip t = let r = route_there v trip t in by (r.0) (r.1)
    where
      by : (route : Option (List LinkNo)) → slice_get routes v ≡ Some route
          → least v ≤ route_time costs net trips routes v
      by None r = let z : least v ≡ 0 = leasts v trip None t r in omega (arith, z)
      by (Some route) r =
          let low = none_less_by costs net trip.origin trip.destination trip.departure (least v)
          (leasts v trip (Some route) t r) (link_numbers route) (are.walks v trip route t r) in
          let is = route_time-is costs net trips routes v trip (Some route) t r in
          omega (arith, low, is)

  trip_at : (v : ℕ) → v < length trips → slice_get trips v ≡ Some (get_or trips v some_trip)
  trip_at v h = slice_get-get_or trips v some_trip h

  all_not_less : (v : ℕ) → v < length trips → least v ≤ route_time costs net trips routes v
  all_not_less v h = not_less v (get_or trips v some_trip) (trip_at v h)

  -- equal sums: each vehicle's route takes its least time
  equilibrium : over_vehicles (length trips) (route_time costs net trips routes)
      ≤ over_vehicles (length trips) least → IsUserEquilibrium costs net trips routes
  equilibrium same v trip route t r other w =
      let inside = slice_get_within trips v trip t in
      let low = over-same (length trips) least (route_time costs net trips routes) all_not_less
      same v inside in
      let is = route_time-is costs net trips routes v trip (Some route) t r in
      let best = none_less_by costs net trip.origin trip.destination trip.departure (least v)
      (leasts v trip (Some route) t r) other w in
      omega (arith, low, is, best)

  -- in a user equilibrium no route takes more than the least time
  no_more : IsUserEquilibrium costs net trips routes → (v : ℕ) → v < length trips
      → route_time costs net trips routes v ≤ least v
  no_more eq v h = let r = route_there v (get_or trips v some_trip) (trip_at v h) in by (r.0) (r.1)
    where
      by : (route : Option (List LinkNo)) → slice_get routes v ≡ Some route
          → route_time costs net trips routes v ≤ least v
      by None r =
          let is = route_time-is costs net trips routes v (get_or trips v some_trip) None
          (trip_at v h) r in
          omega (arith, is)
      by (Some route) r =
          let trip : Trip = get_or trips v some_trip in
          let t = trip_at v h in
          let l = some_walk_by costs net trip.origin trip.destination trip.departure (least v)
          (leasts v trip (Some route) t r) in
          let is = route_time-is costs net trips routes v trip (Some route) t r in
          let best = eq v trip route t r (l.0) (l.1) in
          let has = l.2 in
          omega (arith, is, best, has)

pub gap_is_never_negative : GapIsNeverNegative
gap_is_never_negative costs net trips routes least are leasts = record {
  by_vehicle = not_less costs net trips routes least are leasts;
  in_all = over-le (length trips) least (route_time costs net trips routes)
      (all_not_less costs net trips routes least are leasts);
}

pub no_gap_is_equilibrium : NoGapIsEquilibrium
no_gap_is_equilibrium costs net trips routes line are is = (there, back)
  where
    there : line.gap_steps ≡ 0 → IsUserEquilibrium costs net trips routes
    there none =
        let s = is.above in
        let a = is.by_routes in
        let b = is.by_leasts.2 in
        equilibrium costs net trips routes (is.by_leasts.0) are (is.by_leasts.1)
        (omega (arith, s, a, b, none))

    back : IsUserEquilibrium costs net trips routes → line.gap_steps ≡ 0
    back eq =
        let s = is.above in
        let a = is.by_routes in
        let b = is.by_leasts.2 in
        let low = over-le (length trips) (route_time costs net trips routes) (is.by_leasts.0)
        (no_more costs net trips routes (is.by_leasts.0) are (is.by_leasts.1) eq) in
        omega (arith, s, a, b, low)

pub gaps_are_of_their_loadings : GapsAreOfTheirLoadings
gaps_are_of_their_loadings s traffic all lines settings are it i routes line at on =
    let sound = (sound-iterations s traffic settings are.net are.trips all lines it i routes line
    at on).loading.sound in
    let gap = it.gaps i routes line at on in
    record {
      not_negative = (let sums = gap.above in omega (arith, sums));
      no_gap = no_gap_is_equilibrium
          (costs_by s.costs (loading_over s traffic routes) s.bucket)
          traffic.net traffic.trips routes line
          (record { each = sound.each; walks = sound.walks }) gap;
    }
