-- Sums over vehicles, and the gap that they leave.
use Rattle.std.proofs.Common.{◌≡◌, ℕ, zero, suc, ◌+◌, ◌<◌, ◌≤◌, true, false, List, length, refl, ap, sym, ◌∙◌, subst, arith, Option, Some, None, get_or}
use Rattle.std.specs.Prelude.{All, slice_get, sum_by}
use Rattle.std.proofs.Math.ListN.{get_or-map}
use Rattle.std.proofs.lemmas.List.{length-map}
use Rattle.std.proofs.lemmas.List.Sums.{sum_by_push}
use Rattle.std.proofs.lemmas.Option.{slice_get-get_or, slice_get_within}
use Rattle.net_core.specs.Network.{numbers_below}
use Rattle.net_core.specs.declared.rows.LinkNo.{LinkNo}
use Rattle.net_core.specs.declared.rows.NetRows.{NetRows}
use Rattle.dta_model.specs.Plans.{link_numbers}
use Rattle.dta_model.specs.Walks.{IsWalk}
use Rattle.dta_model.specs.declared.trip.Trip.{Trip}
use Rattle.dta_model.specs.Sound.{AreWalks}
use Rattle.trip_costs.specs.Timings.{Timing}
use Rattle.trip_costs.proofs.Timed.{none_less_by}
use Rattle.gap.specs.Gap.{AreLeasts, has_route, IsGapLine, IsLeastOf, routed}
use Rattle.gap.specs.RouteTimes.{over_vehicles, ppm_of, route_time, steps_of}
use Rattle.gap.specs.declared.line.GapLine.{GapLine}
use Rattle.gap.specs.Told.{least_at, least_at_place, least_in}
use Rattle.time_routes.specs.Destinations.{AreTold, LeastOf}
use Rattle.net_core.proofs.Numbers.{numbers_more}

-- ---- one vehicle more
pub over-more : (n : ℕ) (f : ℕ → ℕ) → over_vehicles (n + 1) f ≡ over_vehicles n f + f n
over-more n f = ap (λ l. sum_by f l) (numbers_more n) ∙ sum_by_push f (numbers_below n) n

pub over-le : (n : ℕ) (f g : ℕ → ℕ) → ((v : ℕ) → v < n → f v ≤ g v) → over_vehicles n f ≤ over_vehicles n g
over-le zero f g h = omega arith
over-le (suc n) f g h =
    let next : suc n ≡ n + 1 = omega arith in
    let before = over-le n f g (λ v b. h v (omega (arith, b))) in
    let here = h n (omega arith) in
    let first : over_vehicles (suc n) f ≡ over_vehicles n f + f n = subst (λ k. over_vehicles k f ≡ over_vehicles n f + f n) (sym next) (over-more n f) in
    let second : over_vehicles (suc n) g ≡ over_vehicles n g + g n = subst (λ k. over_vehicles k g ≡ over_vehicles n g + g n) (sym next) (over-more n g) in
    omega (arith, before, here, first, second)

pub least_at-is : (routes : List (Option (List LinkNo))) (told : List (Option ℕ)) (v : ℕ) (route : Option (List LinkNo)) (time : Option ℕ) → slice_get routes v ≡ Some route → slice_get told v ≡ Some time → least_at routes told v ≡ least_in route time
least_at-is routes told v route time r t = ap (λ o. least_at_place o (slice_get told v)) r ∙ ap (λ o. least_at_place (Some route) o) t

pub route_time-is : (costs : Timing) (net : NetRows) (trips : List Trip) (routes : List (Option (List LinkNo))) (v : ℕ) (trip : Trip) (route : Option (List LinkNo)) → slice_get trips v ≡ Some trip → slice_get routes v ≡ Some route
    → route_time costs net trips routes v ≡ steps_of costs net (Some trip) (Some route)
route_time-is costs net trips routes v trip route t r = ap (λ o. steps_of costs net o (slice_get routes v)) t ∙ ap (λ o. steps_of costs net (Some trip) o) r

-- ---- routes
pub links_within : (net : NetRows) (o d : ℕ) (links : List LinkNo) → IsWalk net o d (link_numbers links) → All (λ l. l.0 < length net.links) links
links_within net o d links w k e h =
    let long : length (link_numbers links) ≡ length links = length-map links (λ l. l.0) in
    let there = w.links k e.0 (omega (arith, long, h)) in
    subst (λ n. n < length net.links) (get_or-map (λ l. l.0) links k e) there

-- ---- least times that are told
module _ (costs : Timing) (net : NetRows) (trips : List Trip) (routes : List (Option (List LinkNo))) (told : List (Option ℕ)) (walks : AreWalks net trips routes) (are : AreTold (LeastOf costs net) (has_route routes) trips told) where
  told_of : (v : ℕ) (trip : Trip) (route : List LinkNo) → slice_get trips v ≡ Some trip → slice_get routes v ≡ Some (Some route) → IsLeastOf costs net trip (Some route) (least_at routes told v)
  told_of v trip route t r =
      let inside = slice_get_within trips v trip t in
      let long = are.as_many in
      let there = slice_get-get_or told v None (omega (arith, inside, long)) in
      by (get_or told v None) there
    where
      asked : has_route routes v ≡ true
      asked = ap routed r

      by : (time : Option ℕ) → slice_get told v ≡ Some time → IsLeastOf costs net trip (Some route) (least_at routes told v)
      by None there = absurd (are.each v None there trip asked t (link_numbers route) (walks v trip route t r))
      by (Some time) there = subst (λ n. IsLeastOf costs net trip (Some route) n) (sym (least_at-is routes told v (Some route) (Some time) r there)) (are.each v (Some time) there trip asked t)

  pub are_leasts : AreLeasts costs net trips routes (least_at routes told)
  are_leasts v trip None t r = by (slice_get told v)
    where
      by : (o : Option (Option ℕ)) → least_at_place (slice_get routes v) o ≡ 0
      by None = rw r refl
      by (Some time) = rw r refl
  are_leasts v trip (Some route) t r = told_of v trip route t r

  pub none_less : (v : ℕ) → v < length trips → least_at routes told v ≤ route_time costs net trips routes v
  none_less v h = by (slice_get routes v) refl
    where
      trip : Trip
      trip = get_or trips v (record { number = 0; origin = 0; destination = 0; departure = 0 })

      there : slice_get trips v ≡ Some trip
      there = slice_get-get_or trips v (record { number = 0; origin = 0; destination = 0; departure = 0 }) h

      nothing : (o : Option (Option (List LinkNo))) (p : Option (Option ℕ)) → routed o ≡ false → least_at_place o p ≡ 0
      nothing None p e = refl
      nothing (Some None) None e = refl
      nothing (Some None) (Some x) e = refl
      nothing (Some (Some route)) p e = cc

      by : (o : Option (Option (List LinkNo))) → slice_get routes v ≡ o → least_at routes told v ≤ route_time costs net trips routes v
      by None r = let z = nothing (slice_get routes v) (slice_get told v) (ap routed r) in omega (arith, z)
      by (Some None) r = let z = nothing (slice_get routes v) (slice_get told v) (ap routed r) in omega (arith, z)
      by (Some (Some route)) r =
          let least = told_of v trip route there r in
          let low = none_less_by costs net trip.origin trip.destination trip.departure _ least (link_numbers route) (walks v trip route there r) in
          let is = route_time-is costs net trips routes v trip (Some route) there r in
          omega (arith, low, is)

  -- the line of a gap, by its two sums
  pub below : (all least : ℕ) → all ≡ over_vehicles (length trips) (route_time costs net trips routes) → least ≡ over_vehicles (length trips) (least_at routes told) → least ≤ all
  below all least a l = let low = over-le (length trips) (least_at routes told) (route_time costs net trips routes) none_less in omega (arith, a, l, low)

  pub line_is : (all least : ℕ) (line : GapLine) → all ≡ over_vehicles (length trips) (route_time costs net trips routes) → least ≡ over_vehicles (length trips) (least_at routes told)
      → line.route_steps ≡ all → line.least_steps ≡ least → least + line.gap_steps ≡ all → line.ppm ≡ ppm_of line.gap_steps least → IsGapLine costs net trips routes line
  line_is all least line a l by_routes by_leasts gap ppm = record {
    by_routes = by_routes ∙ a;
    by_leasts = (least_at routes told, are_leasts, by_leasts ∙ l);
    above = omega (arith, by_routes, by_leasts, gap);
    per_million = ppm ∙ ap (λ n. ppm_of line.gap_steps n) (sym by_leasts);
  }
