-- The line of a gap by the chosen walks is the line of the gap.
use Rattle.trip_costs.specs.Timings.{Links, Timing, Trips, walk_time_by}
use Rattle.trip_costs.specs.TripWalks.{IsChosenBy, IsLeastBy}
use Rattle.trip_costs.proofs.Timed.{none_less_by}
use Rattle.std.proofs.Common.{◌≡◌, ℕ, ◌+◌, ◌-◌, ◌≤◌, List, length, refl, ap, sym, ◌∙◌, subst, arith, Option, None, Some}
use Rattle.std.specs.Prelude.{slice_get}
use Rattle.net_core.specs.Network.{IsNet}
use Rattle.net_core.specs.declared.rows.LinkNo.{LinkNo}
use Rattle.net_core.specs.declared.rows.NetRows.{NetRows}
use Rattle.dta_model.specs.Plans.{link_numbers}
use Rattle.dta_model.specs.Sound.{AreWalks}
use Rattle.dta_model.specs.Walks.{IsWalk}
use Rattle.dta_model.specs.declared.trip.Trip.{Trip}
use Rattle.gap.specs.Gap.{AreLeasts, IsGapLine, IsLeastOf}
use Rattle.gap.specs.RouteTimes.{over_vehicles, route_time, steps_of}
use Rattle.gap.proofs.Sums.{over-le}
use Rattle.time_routes.specs.Destinations.{WalkOf}
use Rattle.reference.specs.Gaps.{gap_of, least_of, least_time}
use Rattle.reference.specs.Routes.{chosen_route}
use Rattle.reference.specs.Searched.{AreCosts}
use Rattle.reference.proofs.StartFacts.{chosen}

with-rest : (all least : ℕ) → least ≤ all → least + (all - least) ≡ all
with-rest all least h = omega (arith, h)

-- the time of the chosen walk is the least
chosen-takes-least : (costs : Timing) (net : NetRows) (origin destination start : ℕ) (walk : List ℕ) → IsChosenBy costs net origin destination start walk → IsLeastBy costs net origin destination start (walk_time_by costs net start walk)
chosen-takes-least (Links at) net origin destination start walk is = record { some_walk = (walk, is.walks, refl); none_less = is.none_less }
chosen-takes-least (Trips costs) net origin destination start walk is = record { some_walk = (walk, is.walks, refl); none_less = is.none_less }

module _ (costs : Timing) (net : NetRows) (sound : IsNet net) (within : AreCosts costs net) (trips : List Trip) (routes : List (Option (List LinkNo))) (walks : AreWalks net trips routes) where
  least-by-walk : (trip : Trip) (route : List LinkNo) → IsWalk net trip.origin trip.destination (link_numbers route)
      → IsLeastOf costs net trip (Some route) (steps_of costs net (Some trip) (Some (chosen_route costs net trip)))
  least-by-walk trip route walk = by (chosen_route costs net trip) (chosen costs net sound within trip)
    where
      by : (o : Option (List LinkNo)) → WalkOf costs net trip o → IsLeastOf costs net trip (Some route) (steps_of costs net (Some trip) (Some o))
      by None none = absurd (none (link_numbers route) walk)
      by (Some links) is = chosen-takes-least costs net trip.origin trip.destination trip.departure (link_numbers links) is

  leasts-at : (v : ℕ) (trip : Trip) (route : Option (List LinkNo)) → slice_get trips v ≡ Some trip → slice_get routes v ≡ Some route
      → IsLeastOf costs net trip route (least_of costs net (Some trip) (Some route))
  leasts-at v trip None t r = refl
  leasts-at v trip (Some route) t r = least-by-walk trip route (walks v trip route t r)

  are-leasts : AreLeasts costs net trips routes (least_time costs net trips routes)
  are-leasts v trip route t r =
      subst (λ n. IsLeastOf costs net trip route n)
      (sym (ap (λ o. least_of costs net o (slice_get routes v)) t ∙ ap (λ o. least_of costs net (Some trip) o) r)) (leasts-at v trip route t r)

  none-less : (v : ℕ) → least_time costs net trips routes v ≤ route_time costs net trips routes v
  none-less v = by (slice_get trips v) refl (slice_get routes v) refl
    where
      by : (t : Option Trip) → slice_get trips v ≡ t → (r : Option (Option (List LinkNo))) → slice_get routes v ≡ r → least_of costs net t r ≤ steps_of costs net t r
      by None e r f = omega arith
      by (Some trip) e None f = omega arith
      by (Some trip) e (Some None) f = omega arith
      by (Some trip) e (Some (Some route)) f =
          let walk = walks v trip route e f in
          let least = steps_of costs net (Some trip) (Some (chosen_route costs net trip)) in
          none_less_by costs net trip.origin trip.destination trip.departure least (least-by-walk trip route walk) (link_numbers route) walk

  pub gap-is : IsGapLine costs net trips routes (gap_of costs net trips routes)
  unfolding gap_of
  gap-is = record {
    by_routes = refl;
    by_leasts = (least_time costs net trips routes, are-leasts, refl);
    above = with-rest (over_vehicles (length trips) (route_time costs net trips routes)) (over_vehicles (length trips) (least_time costs net trips routes))
        (over-le (length trips) (least_time costs net trips routes) (route_time costs net trips routes) (λ v h. none-less v));
    per_million = refl;
  }
