-- Visits and trips are no faster than free flow.
use Rattle.std.specs.Prelude.{slice_get, slice_index}
use Rattle.std.proofs.Common.{◌≡◌, ℕ, zero, suc, ◌+◌, ◌<◌, ◌≤◌, List, [], ◌∷◌, length}
use Rattle.std.proofs.Common.{refl, ap, sym, ◌∙◌, subst, arith, Option, Some, None}
use Rattle.std.proofs.lemmas.List.{length-map}
use Rattle.net_core.specs.declared.rows.LinkNo.{LinkNo}
use Rattle.dta_model.specs.Least.{IsLeast}
use Rattle.dta_model.specs.LinkTimes.{penalty_to}
use Rattle.dta_model.specs.Loading.{journeys_of, trace_after}
use Rattle.dta_model.specs.Plans.{departure_in, departure_of, link_at, link_numbers, route_in}
use Rattle.dta_model.specs.Plans.{route_of, turn}
use Rattle.dta_model.specs.Sound.{IsSound}
use Rattle.dta_model.specs.TimedWalks.{arrival_after, arrival_step, penalty_steps, walk_time}
use Rattle.dta_model.specs.Trace.{Arrived, Onto, moves_of, target_at}
use Rattle.dta_model.specs.declared.loaded.Journey.{Journey}
use Rattle.dta_model.specs.declared.plan.Plan.{Plan}
use Rattle.dta_model.specs.declared.trip.Trip.{Trip}
use Rattle.dta_model.proofs.Journeys.{routes_are_followed}
use Rattle.link_times.specs.Journeys.{HasGone, link_on}
use Rattle.link_times.proofs.Along.{along_end, along_get, out_in}
use Rattle.link_times.proofs.Gone.{gone_by}
use Rattle.link_times.proofs.TravelTimes.{Lasts}
use Rattle.traffic_laws.proofs.Journeying.{begun, ended, next_lasts, own_not_early}
use Rattle.traffic_laws.specs.FreeFlow.{NobodyIsEarly, TripsAreNoFaster}
use Rattle.traffic_laws.specs.FreeFlow.{VisitsAreNoFaster, free_flow}

pub nobody_is_early : NobodyIsEarly
nobody_is_early p v i a e = own_not_early p v i a (begun p v i a e)

pub visits_are_no_faster : VisitsAreNoFaster
visits_are_no_faster p v i l a b on begins ends =
    let x = begun p v i a begins in
    let y = ended p v i b ends in
    let at : x.move.target ≡ Onto l =
    routes_are_followed p p.horizon v i x.move x.there ∙ ap target_at on in
    let next = routes_are_followed p p.horizon v (suc i) y.move y.there in
    let long = next_lasts p p.horizon v i x.move y.move x.there y.there in
    let from : x.move.step + (link_at p l).free + penalty_to p l y.move.target ≤ y.move.step =
    subst (λ q. Lasts p (record x.move { target = q }) y.move) at long in
    let to = subst (λ q. x.move.step + (link_at p l).free + penalty_to p l q ≤ y.move.step) next
    from in
    let first = x.is in
    let last = y.is in
    omega (arith, to, first, last)

-- a route whose links are entered so is left no earlier than at free flow
arrives_after : (p : Plan) (step l e s : ℕ) (rest entries : List ℕ) → step ≤ e
    → length entries ≡ length rest
    → ((i : ℕ) → suc i < suc (length entries)
    → slice_index (e ∷ entries) i + (link_at p (slice_index (l ∷ rest) i)).free
    + penalty_steps (turn p (slice_index (l ∷ rest) i) (slice_index (l ∷ rest) (suc i)))
    ≤ slice_index (e ∷ entries) (suc i))
    → ((i : ℕ) → suc i ≡ suc (length entries)
    → slice_index (e ∷ entries) i + (link_at p (slice_index (l ∷ rest) i)).free ≤ s)
    → arrival_after (free_flow p) p.net step l rest ≤ s
unfolding arrival_after
arrives_after p step l e s [] [] h many spaced last =
    let k = last 0 refl in omega (arith, h, k)
arrives_after p step l e s [] (x ∷ entries) h many spaced last = absurd (omega (arith, many))
arrives_after p step l e s (b ∷ rest) [] h many spaced last = absurd (omega (arith, many))
arrives_after p step l e s (b ∷ rest) (x ∷ entries) h many spaced last =
    let k = spaced 0 (omega arith) in
    arrives_after p (step + (link_at p l).free + penalty_steps (turn p l b)) b x s rest entries
    (omega (arith, h, k)) (omega (arith, many))
    (λ i j. spaced (suc i) (omega (arith, j))) (λ i j. last (suc i) (ap suc j))

pub no_out : (o : Option ℕ) → Arrived ≡ target_at o → o ≡ None
no_out None e = refl
no_out (Some l) e = cc

pub past : (xs : List ℕ) (i : ℕ) → slice_get xs i ≡ None → length xs ≤ i
past [] i e = omega arith
past (x ∷ xs) zero e = cc
past (x ∷ xs) (suc i) e = let k = past xs i e in omega (arith, k)

module _ (p : Plan) (sound : IsSound p) (v arrival : ℕ) (trip : Trip) (route : List LinkNo)
    (journey : Journey) (t : slice_get p.trips v ≡ Some trip)
    (r : slice_get p.routes v ≡ Some (Some route))
    (there : slice_get (journeys_of p) v ≡ Some journey)
    (out : journey.arrival ≡ Some arrival) where
  gone : HasGone p v route journey.entries journey.arrival
  gone =
      gone_by p sound v (journeys_of p) route route journey journey.entries r refl refl there refl

  pub departs : departure_of p v ≡ trip.departure
  unfolding departure_of
  departs = ap departure_in t

  way : route_of p v ≡ link_numbers route
  unfolding route_of
  way = ap route_in r

  -- the arrival is the move after the last entry
  arrives : slice_get (moves_of v (trace_after p p.horizon)) (length journey.entries)
      ≡ Some (record { step = arrival; vehicle = v; target = Arrived })
  arrives =
      ap (λ L. slice_get L (length journey.entries)) gone.moves
      ∙ along_end v route journey.entries journey.arrival (length journey.entries) gone.within refl
      ∙ ap (out_in v) out

  pub many : length journey.entries ≡ length route
  many =
      let x = routes_are_followed p p.horizon v (length journey.entries)
      (record { step = arrival; vehicle = v; target = Arrived }) arrives in
      let long = past (link_numbers route) (length journey.entries)
      (no_out (slice_get (link_numbers route) (length journey.entries))
      (x ∙ ap (λ L. target_at (slice_get L (length journey.entries))) way)) in
      let size = length-map route (λ l. l.0) in
      let within = gone.within in
      omega (arith, long, size, within)

  not_before : trip.departure ≤ arrival
  not_before =
      let x = own_not_early p v (length journey.entries) arrival
      (record {
        move = record { step = arrival; vehicle = v; target = Arrived };
        there = arrives;
        is = refl;
      }) in
      let d = departs in
      omega (arith, x, d)

  first_not_before : (e : ℕ) → 0 < length journey.entries → e ≡ slice_index journey.entries 0
      → trip.departure ≤ e
  first_not_before e some is =
      let x = own_not_early p v 0 (slice_index journey.entries 0)
      (record {
        move = record {
          step = slice_index journey.entries 0;
          vehicle = v;
          target = Onto (link_on route 0);
        };
        there = ap (λ L. slice_get L 0) gone.moves
            ∙ along_get v route journey.entries journey.arrival 0 gone.within some;
        is = refl;
      }) in
      let d = departs in
      omega (arith, x, d, is)

  arrives_by : arrival_step (free_flow p) p.net trip.departure (link_numbers route) ≤ arrival
  arrives_by =
      by route journey.entries refl refl
    where
      by : (links : List LinkNo) (entries : List ℕ) → links ≡ route → entries ≡ journey.entries
          → arrival_step (free_flow p) p.net trip.departure (link_numbers links) ≤ arrival
      by [] entries e f = not_before
      by (l ∷ links) [] e f =
          let k = many in
          let a = ap (λ L. length L) e in
          let b = ap (λ L. length L) f in
          absurd (omega (arith, k, a, b))
      by (l ∷ links) (x ∷ entries) e f =
          let k = many in
          let a = ap (λ L. length L) e in
          let b = ap (λ L. length L) f in
          let spaced = subst (λ L. (i : ℕ) → suc i < length L
          → slice_index L i + (link_at p (link_on route i)).free
          + penalty_steps (turn p (link_on route i) (link_on route (suc i)))
          ≤ slice_index L (suc i)) (sym f) gone.spaced in
          let last = subst (λ L. (i s : ℕ) → suc i ≡ length L → journey.arrival ≡ Some s
          → slice_index L i + (link_at p (link_on route i)).free ≤ s) (sym f) gone.ended in
          let spaced_on = subst (λ R. (i : ℕ) → suc i < length (x ∷ entries)
          → slice_index (x ∷ entries) i + (link_at p (link_on R i)).free
          + penalty_steps (turn p (link_on R i) (link_on R (suc i)))
          ≤ slice_index (x ∷ entries) (suc i)) (sym e) spaced in
          let last_on = subst (λ R. (i s : ℕ) → suc i ≡ length (x ∷ entries)
          → journey.arrival ≡ Some s
          → slice_index (x ∷ entries) i + (link_at p (link_on R i)).free ≤ s) (sym e) last in
          let size = length-map links (λ n. n.0) in
          arrives_after p trip.departure l.0 x arrival (link_numbers links) entries
          (first_not_before x (omega (arith, b)) (ap (λ L. slice_index L 0) f))
          (omega (arith, k, a, b, size)) spaced_on (λ i j. last_on i arrival j out)

  by_route : trip.departure + walk_time (free_flow p) p.net trip.departure (link_numbers route)
      ≤ arrival
  by_route =
      let a = arrives_by in
      let b = not_before in
      omega (arith, a, b)

  by_zones : (least : ℕ)
      → IsLeast (free_flow p) p.net trip.origin trip.destination trip.departure least
      → trip.departure + least ≤ arrival
  by_zones least is =
      let low = is.none_less (link_numbers route) (sound.walks v trip route t r) in
      let a = by_route in
      omega (arith, low, a)

pub trips_are_no_faster : TripsAreNoFaster
trips_are_no_faster p sound v arrival trip route journey t r there out = record {
  by_route = by_route p sound v arrival trip route journey t r there out;
  by_zones = by_zones p sound v arrival trip route journey t r there out;
}
