-- The iterations of the reference are those of the definitions.
use Rattle.trip_costs.specs.Timings.{Links}
use Rattle.std.proofs.Common.{◌≡◌, ℕ, zero, suc, ◌+◌, ◌<◌, map, ap, sym, ◌∙◌, subst, arith, Some}
use Rattle.std.specs.Prelude.{slice_get}
use Rattle.std.proofs.lemmas.List.FromFn.{get_or-map-range_with_len, length-map-range_with_len}
use Rattle.std.proofs.lemmas.Option.{get_or_from_slice_get, slice_get-get_or, slice_get_within}
use Rattle.net_core.specs.Network.{IsNet, numbers_below}
use Rattle.gap.specs.Gap.{IsGapLine}
use Rattle.route_flows.specs.Averages.{AreNextRoutes, AreStartedRoutes}
use Rattle.route_flows.specs.Selection.{free_time}
use Rattle.start_table.specs.Starts.{AreStartRows}
use Rattle.route_flows.proofs.Averaged.{next_walk}
use Rattle.route_flows.proofs.Started.{started_walk}
use Rattle.dta_words.specs.Ranges.{AreSettings}
use Rattle.dta_words.specs.declared.command.Settings.{Settings}
use Rattle.assignment.specs.Assignment.{Traffic, VehicleRoutes, costs_of, plan_of}
use Rattle.assignment.specs.Iterations.{AreIterations}
use Rattle.assignment.specs.Traffic.{AreRoutesOf, AreTripsBelow}
use Rattle.assignment.proofs.AssignmentFacts.{sound-plan}
use Rattle.reference.specs.Reference.{all_gaps, gap_at, routes_after, routes_at, routes_until}
use Rattle.reference.specs.Searched.{AreCosts}
use Rattle.reference.proofs.GapFacts.{gap-is}
use Rattle.reference.proofs.LoadedTimes.{free-times, loaded-costs}
use Rattle.reference.proofs.StartFacts.{first-are, next-are}

-- ---- what stands at places
pub at-place : {A : Type 0} (f : ℕ → A) (n i : ℕ) (x : A) → slice_get (map f (numbers_below n)) i ≡ Some x → f i ≡ x
at-place f n i x e =
    let within = slice_get_within (map f (numbers_below n)) i x e in
    let long = length-map-range_with_len f 0 n in
    sym (get_or-map-range_with_len f 0 n i i x (omega (arith, within, long)) (omega arith)) ∙ get_or_from_slice_get (map f (numbers_below n)) i x x e

pub place-of : {A : Type 0} (f : ℕ → A) (n i : ℕ) → i < n → slice_get (map f (numbers_below n)) i ≡ Some (f i)
place-of f n i h =
    let long = length-map-range_with_len f 0 n in
    slice_get-get_or (map f (numbers_below n)) i (f i) (omega (arith, h, long))
    ∙ ap Some (get_or-map-range_with_len f 0 n i i (f i) h (omega arith))

module _ (s : Settings) (traffic : Traffic) (settings : AreSettings s) (net : IsNet traffic.net) (trips : AreTripsBelow s.horizon traffic.trips) (start : AreStartRows traffic.start) where
  -- ---- costs of loadings
  costs-of-loading : (routes : VehicleRoutes) → AreRoutesOf traffic routes → AreCosts (costs_of s traffic routes) traffic.net
  costs-of-loading routes are = loaded-costs (plan_of s traffic routes) (sound-plan s traffic routes settings net trips are) s.bucket settings.bucket.0 s.costs

  -- ---- routes
  first-at : AreStartedRoutes traffic.net traffic.start traffic.trips (routes_at s traffic 0)
  unfolding routes_at
  first-at = first-are traffic.net traffic.start net start (free-times traffic.net net) traffic.trips

  next-of : (i : ℕ) (old : VehicleRoutes) → AreRoutesOf traffic old
      → AreNextRoutes (costs_of s traffic old) traffic.net traffic.trips (i + 1) old (routes_after s traffic (i + 1) old)
  next-of i old are = next-are (costs_of s traffic old) traffic.net net (costs-of-loading old are) traffic.trips (i + 1) old are.each

  next-routed : (i : ℕ) (old new : VehicleRoutes) → AreRoutesOf traffic old
      → AreNextRoutes (costs_of s traffic old) traffic.net traffic.trips (i + 1) old new → AreRoutesOf traffic new
  next-routed i old new are next = record {
    each = next.as_many;
    walks = next_walk (costs_of s traffic old) traffic.net traffic.trips (i + 1) old new are.walks next;
  }

  pub routed : (i : ℕ) → AreRoutesOf traffic (routes_at s traffic i)
  unfolding routes_at
  routed zero = record {
    each = first-at.as_many;
    walks = started_walk (Links (free_time traffic.net)) traffic.net traffic.start traffic.trips (routes_at s traffic 0) first-at;
  }
  routed (suc i) =
      let before = routed i in
      next-routed i (routes_at s traffic i) (routes_after s traffic (i + 1) (routes_at s traffic i)) before (next-of i (routes_at s traffic i) before)

  next-at : (i : ℕ) → AreNextRoutes (costs_of s traffic (routes_at s traffic i)) traffic.net traffic.trips (i + 1) (routes_at s traffic i) (routes_at s traffic (suc i))
  unfolding routes_at
  next-at i = next-of i (routes_at s traffic i) (routed i)

  -- ---- the first iterations, so many
  pub iterated : (n : ℕ) → AreIterations s traffic (routes_until s traffic n) (all_gaps s traffic)
  iterated n = record {
    start = start;
    first = λ r e. subst (λ x. AreStartedRoutes traffic.net traffic.start traffic.trips x) (at-place (routes_at s traffic) n 0 r e) first-at;
    next = λ i old new e f. next-there i old new (at-place (routes_at s traffic) n i old e) (at-place (routes_at s traffic) n (i + 1) new f);
    gaps = λ i r line e f.
        subst (λ g. IsGapLine (costs_of s traffic r) traffic.net traffic.trips r g) (at-place (gap_at s traffic) s.iterations i line f)
        (gap-there i r (at-place (routes_at s traffic) n i r e));
  }
    where
      next-there : (i : ℕ) (old new : VehicleRoutes) → routes_at s traffic i ≡ old → routes_at s traffic (i + 1) ≡ new
          → AreNextRoutes (costs_of s traffic old) traffic.net traffic.trips (i + 1) old new
      next-there i old new e f =
          let up : i + 1 ≡ suc i = omega arith in
          let there : routes_at s traffic (suc i) ≡ new = ap (routes_at s traffic) (sym up) ∙ f in
          subst (λ x. AreNextRoutes (costs_of s traffic x) traffic.net traffic.trips (i + 1) x new) e
          (subst (λ y. AreNextRoutes (costs_of s traffic (routes_at s traffic i)) traffic.net traffic.trips (i + 1) (routes_at s traffic i) y) there (next-at i))

      gap-there : (i : ℕ) (r : VehicleRoutes) → routes_at s traffic i ≡ r → IsGapLine (costs_of s traffic r) traffic.net traffic.trips r (gap_at s traffic i)
      gap-there i r e =
          let routes = routes_at s traffic i in
          let are = routed i in
          subst (λ x. IsGapLine (costs_of s traffic x) traffic.net traffic.trips x (gap_at s traffic i)) e
          (gap-is (costs_of s traffic routes) traffic.net net (costs-of-loading routes are) traffic.trips routes are.walks)
