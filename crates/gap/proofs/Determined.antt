-- Routes and a table have one gap.
use Rattle.std.proofs.Common.{◌≡◌, ℕ, ◌<◌, ◌≤◌, List, length, ap, sym, ◌∙◌, arith, Option, Some, None, get_or}
use Rattle.std.proofs.lemmas.Option.{slice_get-get_or}
use Rattle.net_core.specs.declared.rows.LinkNo.{LinkNo}
use Rattle.net_core.specs.declared.rows.NetRows.{NetRows}
use Rattle.trip_costs.specs.Timings.{Timing}
use Rattle.trip_costs.specs.TripWalks.{IsLeastBy}
use Rattle.trip_costs.proofs.Timed.{none_less_by, some_walk_by}
use Rattle.dta_model.specs.declared.trip.Trip.{Trip}
use Rattle.gap.specs.Gap.{AreLeasts, IsLeastOf}
use Rattle.gap.specs.RouteTimes.{over_vehicles, ppm_of}
use Rattle.gap.specs.Laws.{LinesAreDetermined}
use Rattle.gap.specs.declared.line.GapLine.{GapLine}
use Rattle.gap.proofs.Sums.{over-le}

no_more : (costs : Timing) (net : NetRows) (o d start a b : ℕ) → IsLeastBy costs net o d start a → IsLeastBy costs net o d start b → a ≤ b
no_more costs net o d start a b x y =
    let w = some_walk_by costs net o d start b y in
    let low = none_less_by costs net o d start a x (w.0) (w.1) in
    omega (arith, low, w.2)

least_no_more : (costs : Timing) (net : NetRows) (trip : Trip) (route : Option (List LinkNo)) (a b : ℕ) → IsLeastOf costs net trip route a → IsLeastOf costs net trip route b → a ≤ b
least_no_more costs net trip None a b x y = omega (arith, x, y)
least_no_more costs net trip (Some route) a b x y = no_more costs net trip.origin trip.destination trip.departure a b x y

sums_no_more : (costs : Timing) (net : NetRows) (trips : List Trip) (routes : List (Option (List LinkNo))) (f g : ℕ → ℕ) → length routes ≡ length trips → AreLeasts costs net trips routes f → AreLeasts costs net trips routes g
    → over_vehicles (length trips) f ≤ over_vehicles (length trips) g
sums_no_more costs net trips routes f g each x y = over-le (length trips) f g here
  where
    here : (v : ℕ) → v < length trips → f v ≤ g v
    here v h =
        let d : Trip = record { number = 0; origin = 0; destination = 0; departure = 0 } in
        let t = slice_get-get_or trips v d h in
        let r = slice_get-get_or routes v None (omega (arith, h, each)) in
        least_no_more costs net (get_or trips v d) (get_or routes v None) (f v) (g v) (x v (get_or trips v d) (get_or routes v None) t r) (y v (get_or trips v d) (get_or routes v None) t r)

abbrev line_of : ℕ → ℕ → ℕ → ℕ → GapLine
line_of route least above millionths = record { route_steps = route; least_steps = least; gap_steps = above; ppm = millionths }

same_line : (a b : GapLine) → a.route_steps ≡ b.route_steps → a.least_steps ≡ b.least_steps → a.gap_steps ≡ b.gap_steps → a.ppm ≡ b.ppm → a ≡ b
same_line a b p q r s =
    ap (λ x. line_of x a.least_steps a.gap_steps a.ppm) p
    ∙ ap (λ x. line_of b.route_steps x a.gap_steps a.ppm) q
    ∙ ap (λ x. line_of b.route_steps b.least_steps x a.ppm) r
    ∙ ap (λ x. line_of b.route_steps b.least_steps b.gap_steps x) s

pub lines_are_determined : LinesAreDetermined
lines_are_determined costs net trips routes a b each x y =
    let routes_same : a.route_steps ≡ b.route_steps = x.by_routes ∙ sym y.by_routes in
    let one = sums_no_more costs net trips routes (x.by_leasts.0) (y.by_leasts.0) each (x.by_leasts.1) (y.by_leasts.1) in
    let two = sums_no_more costs net trips routes (y.by_leasts.0) (x.by_leasts.0) each (y.by_leasts.1) (x.by_leasts.1) in
    let fa = x.by_leasts.2 in
    let fb = y.by_leasts.2 in
    let leasts_same : a.least_steps ≡ b.least_steps = omega (arith, one, two, fa, fb) in
    let above_a = x.above in
    let above_b = y.above in
    let gaps_same : a.gap_steps ≡ b.gap_steps = omega (arith, routes_same, leasts_same, above_a, above_b) in
    let ppm_same : a.ppm ≡ b.ppm = x.per_million ∙ ap (λ g. ppm_of g a.least_steps) gaps_same ∙ ap (λ l. ppm_of b.gap_steps l) leasts_same ∙ sym y.per_million in
    same_line a b routes_same leasts_same gaps_same ppm_same
