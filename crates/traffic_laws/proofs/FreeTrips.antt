-- Where nothing binds each trip takes its route's free-flow time.
use Rattle.std.specs.Prelude.{slice_get, slice_index}
use Rattle.std.proofs.Common.{◌≡◌, ℕ, zero, suc, ◌+◌, ◌<◌, ◌≤◌}
use Rattle.std.proofs.Common.{List, [], ◌∷◌, length, refl, ap, sym, ◌∙◌}
use Rattle.std.proofs.Common.{arith, Some, None}
use Rattle.std.proofs.lemmas.List.{length-map}
use Rattle.std.proofs.lemmas.Option.{slice_get-get_or, slice_get_within}
use Rattle.net_core.specs.declared.rows.LinkNo.{LinkNo}
use Rattle.dta_model.specs.LinkTimes.{penalty_to}
use Rattle.dta_model.specs.Loading.{journeys_of, trace_after}
use Rattle.dta_model.specs.Plans.{departure_in, departure_of, first_link, link_at, link_numbers}
use Rattle.dta_model.specs.Plans.{route_in, route_of, turn}
use Rattle.dta_model.specs.Sound.{IsSound}
use Rattle.dta_model.specs.TimedWalks.{arrival_after, arrival_step, penalty_steps}
use Rattle.dta_model.specs.Trace.{Arrived, Move, Onto}
use Rattle.dta_model.specs.Trace.{moves_of, target_at}
use Rattle.dta_model.specs.declared.loaded.Journey.{Journey}
use Rattle.dta_model.specs.declared.plan.Plan.{Plan}
use Rattle.dta_model.specs.declared.trip.Trip.{Trip}
use Rattle.link_times.specs.Journeys.{HasGone, link_on, moves_along}
use Rattle.link_times.proofs.Along.{along_end, along_get, out_in}
use Rattle.link_times.proofs.Gone.{gone_by}
use Rattle.traffic_laws.proofs.ExactMoves.{exact_first, exact_last, exact_next, last_is, not_here}
use Rattle.traffic_laws.proofs.NoFaster.{many}
use Rattle.traffic_laws.proofs.OnTime.{on_time}
use Rattle.traffic_laws.specs.FreeFlow.{NothingBinds}
use Rattle.traffic_laws.specs.FreeFlow.{TripsAreAtFreeFlow, free_flow}

-- at free flow a walk takes at least its first link's free-flow steps, with the penalty to the next
walk_least : (p : Plan) (step l : ℕ) (rest : List ℕ)
    → step + (link_at p l).free + penalty_to p l (target_at (slice_get rest 0))
    ≤ arrival_after (free_flow p) p.net step l rest
unfolding arrival_after
walk_least p step l [] = omega arith
walk_least p step l (b ∷ rest) =
    let k = walk_least p (step + (link_at p l).free + penalty_steps (turn p l b)) b rest in
    omega (arith, k)

-- the steps from entry to entry along some links
abbrev NextEntries : Plan → List ℕ → List ℕ → Type 0
NextEntries p links entries =
    (i : ℕ) → suc i < length entries
    → slice_index entries (suc i)
    ≡ slice_index entries i + (link_at p (slice_index links i)).free
    + penalty_steps (turn p (slice_index links i) (slice_index links (suc i)))

module _ (p : Plan) where
  -- who has entered all links of a route leaves the last of them at free flow
  arrives_at : (step l e s : ℕ) (rest entries : List ℕ) → step ≡ e → length entries ≡ length rest
      → NextEntries p (l ∷ rest) (e ∷ entries)
      → ((i : ℕ) → suc i ≡ suc (length entries)
      → s ≡ slice_index (e ∷ entries) i + (link_at p (slice_index (l ∷ rest) i)).free)
      → s ≡ arrival_after (free_flow p) p.net step l rest
  unfolding arrival_after
  arrives_at step l e s [] [] h many next last = let k = last 0 refl in omega (arith, h, k)
  arrives_at step l e s [] (x ∷ entries) h many next last = absurd (omega (arith, many))
  arrives_at step l e s (b ∷ rest) [] h many next last = absurd (omega (arith, many))
  arrives_at step l e s (b ∷ rest) (x ∷ entries) h many next last =
      let k = next 0 (omega arith) in
      arrives_at (step + (link_at p l).free + penalty_steps (turn p l b)) b x s rest entries
      (omega (arith, h, k)) (omega (arith, many))
      (λ i j. next (suc i) (omega (arith, j))) (λ i j. last (suc i) (ap suc j))

  -- who hasn't left the last link that it entered by the horizon arrives no earlier
  arrives_later : (step l e : ℕ) (rest entries : List ℕ) → step ≡ e
      → length entries ≤ length rest → NextEntries p (l ∷ rest) (e ∷ entries)
      → ((i : ℕ) → suc i ≡ suc (length entries)
      → p.horizon ≤ slice_index (e ∷ entries) i + (link_at p (slice_index (l ∷ rest) i)).free
      + penalty_to p (slice_index (l ∷ rest) i) (target_at (slice_get (l ∷ rest) (suc i))))
      → p.horizon ≤ arrival_after (free_flow p) p.net step l rest
  unfolding arrival_after
  arrives_later step l e rest [] h few next last =
      let k = last 0 refl in
      let low = walk_least p step l rest in
      omega (arith, h, k, low)
  arrives_later step l e [] (x ∷ entries) h few next last = absurd (omega (arith, few))
  arrives_later step l e (b ∷ rest) (x ∷ entries) h few next last =
      let k = next 0 (omega arith) in
      arrives_later (step + (link_at p l).free + penalty_steps (turn p l b)) b x rest entries
      (omega (arith, h, k)) (omega (arith, few))
      (λ i j. next (suc i) (omega (arith, j))) (λ i j. last (suc i) (ap suc j))

module _ (p : Plan) (sound : IsSound p) (wait : ℕ → ℕ) (binds : NothingBinds p wait) (v : ℕ)
    (trip : Trip)
    (route : List LinkNo) (journey : Journey) (t : slice_get p.trips v ≡ Some trip)
    (r : slice_get p.routes v ≡ Some (Some route))
    (there : slice_get (journeys_of p) v ≡ Some journey) where
  gone : HasGone p v route journey.entries journey.arrival
  gone =
      gone_by p sound v (journeys_of p) route route journey journey.entries r refl refl there refl

  entry_at : (i : ℕ) → i < length journey.entries
      → slice_get (moves_of v (trace_after p p.horizon)) i
      ≡ Some (record {
        step = slice_index journey.entries i;
        vehicle = v;
        target = Onto (link_on route i);
      })
  entry_at i h =
      ap (λ L. slice_get L i) gone.moves
      ∙ along_get v route journey.entries journey.arrival i gone.within h

  out_at : slice_get (moves_of v (trace_after p p.horizon)) (length journey.entries)
      ≡ out_in v journey.arrival
  out_at =
      ap (λ L. slice_get L (length journey.entries)) gone.moves
      ∙ along_end v route journey.entries journey.arrival (length journey.entries) gone.within refl

  departs : departure_of p v ≡ trip.departure
  unfolding departure_of
  departs = ap departure_in t

  some_link : 1 ≤ length route
  some_link =
      let some = (sound.walks v trip route t r).some in
      let size = length-map route (λ l. l.0) in
      omega (arith, some, size)

  way : route_of p v ≡ link_numbers route
  unfolding route_of
  way = ap route_in r

  first_is : first_link p v ≡ slice_get (link_numbers route) 0
  unfolding first_link route_of
  first_is = ap (λ o. slice_get (route_in o) 0) r

  first : (b : ℕ) → slice_get (link_numbers route) 0 ≡ Some b → 0 < length journey.entries
      → slice_index journey.entries 0 ≡ trip.departure
  first b e some =
      exact_first p sound wait binds v b
      (record {
        step = slice_index journey.entries 0;
        vehicle = v;
        target = Onto (link_on route 0);
      })
      (slice_get_within p.trips v trip t) (first_is ∙ e) (entry_at 0 some) ∙ departs

  next_entries : (i : ℕ) → suc i < length journey.entries
      → slice_index journey.entries (suc i)
      ≡ slice_index journey.entries i + (link_at p (link_on route i)).free
      + penalty_steps (turn p (link_on route i) (link_on route (suc i)))
  next_entries i h =
      exact_next p sound wait binds v i (link_on route i)
      (record {
        step = slice_index journey.entries i;
        vehicle = v;
        target = Onto (link_on route i);
      })
      (record {
        step = slice_index journey.entries (suc i);
        vehicle = v;
        target = Onto (link_on route (suc i));
      })
      (entry_at i (omega (arith, h))) (entry_at (suc i) h) refl

  ends_at : (arrival : ℕ) → journey.arrival ≡ Some arrival → (i : ℕ)
      → suc i ≡ length journey.entries
      → arrival ≡ slice_index journey.entries i + (link_at p (link_on route i)).free
  ends_at arrival out i h =
      exact_next p sound wait binds v i (link_on route i)
      (record {
        step = slice_index journey.entries i;
        vehicle = v;
        target = Onto (link_on route i);
      })
      (record { step = arrival; vehicle = v; target = Arrived })
      (entry_at i (omega (arith, h)))
      (ap (λ k. slice_get (moves_of v (trace_after p p.horizon)) k) h ∙ out_at ∙ ap (out_in v) out)
      refl ∙ omega arith

  stays : journey.arrival ≡ None → (i : ℕ) → suc i ≡ length journey.entries
      → p.horizon ≤ slice_index journey.entries i + (link_at p (link_on route i)).free
      + penalty_to p (link_on route i) (target_at (slice_get (link_numbers route) (suc i)))
  stays none i h =
      let at = entry_at i (omega (arith, h)) in
      let end : slice_get (moves_of v (trace_after p p.horizon)) (suc i) ≡ None =
      ap (λ k. slice_get (moves_of v (trace_after p p.horizon)) k) h ∙ out_at
      ∙ ap (out_in v) none in
      let most = long (moves_of v (trace_after p p.horizon)) (suc i) end in
      let least = within (moves_of v (trace_after p p.horizon)) i _ at in
      let last = exact_last p sound wait binds v (link_on route i)
      (record {
        step = slice_index journey.entries i;
        vehicle = v;
        target = Onto (link_on route i);
      })
      (last_is (moves_of v (trace_after p p.horizon)) i
      (record {
        step = slice_index journey.entries i;
        vehicle = v;
        target = Onto (link_on route i);
      })
      (omega (arith, most, least)) at) refl in
      let size = length-map route (λ l. l.0) in
      let inside = gone.within in
      let place : slice_get (route_of p v) i ≡ Some (link_on route i) =
      ap (λ L. slice_get L i) way
      ∙ slice_get-get_or (link_numbers route) i 0 (omega (arith, size, inside, h)) in
      let same : penalty_to p (link_on route i) (target_at (slice_get (link_numbers route) (suc i)))
      ≡ wait (link_on route i) =
      sym (ap (λ L. penalty_to p (link_on route i) (target_at (slice_get L (suc i)))) way)
      ∙ binds.penalties v i (link_on route i) place in
      omega (arith, last, same)
    where
      long : (L : List Move) (k : ℕ) → slice_get L k ≡ None → length L ≤ k
      long [] k e = omega arith
      long (x ∷ L) zero e = cc
      long (x ∷ L) (suc k) e = let j = long L k e in omega (arith, j)

      within : (L : List Move) (k : ℕ) (m : Move) → slice_get L k ≡ Some m → k < length L
      within L k m e = slice_get_within L k m e

  -- the arrival of the route at free flow
  abbrev arrival_free : ℕ
  arrival_free = arrival_step (free_flow p) p.net trip.departure (link_numbers route)

  not_before : trip.departure ≤ arrival_free
  not_before = by (link_numbers route)
    where
      by : (links : List ℕ)
          → trip.departure ≤ arrival_step (free_flow p) p.net trip.departure links
      by [] = omega arith
      by (l ∷ rest) = let k = walk_least p trip.departure l rest in omega (arith, k)

  arrives : (arrival : ℕ) → journey.arrival ≡ Some arrival → arrival ≡ arrival_free
  arrives arrival out =
      by route journey.entries some_link (many p sound v arrival trip route journey t r there out)
      first next_entries (ends_at arrival out)
    where
      by : (links : List LinkNo) (entries : List ℕ) → 1 ≤ length links
          → length entries ≡ length links
          → ((b : ℕ) → slice_get (link_numbers links) 0 ≡ Some b → 0 < length entries
          → slice_index entries 0 ≡ trip.departure)
          → NextEntries p (link_numbers links) entries
          → ((i : ℕ) → suc i ≡ length entries
          → arrival ≡ slice_index entries i + (link_at p (link_on links i)).free)
          → arrival ≡ arrival_step (free_flow p) p.net trip.departure (link_numbers links)
      by [] entries some all start next last = absurd (omega (arith, some))
      by (l ∷ links) [] some all start next last = absurd (omega (arith, all))
      by (l ∷ links) (x ∷ entries) some all start next last =
          let size = length-map links (λ n. n.0) in
          arrives_at p trip.departure l.0 x arrival (link_numbers links) entries
          (sym (start l.0 refl (omega arith))) (omega (arith, all, size)) next last

  -- who has entered no link was to depart at the horizon or later
  not_yet : (b : ℕ) → slice_get (link_numbers route) 0 ≡ Some b → journey.arrival ≡ None
      → journey.entries ≡ [] → p.horizon ≤ trip.departure
  unfolding moves_along
  not_yet b e none empty =
      let quiet : moves_of v (trace_after p p.horizon) ≡ [] =
      gone.moves ∙ ap (λ L. moves_along v route L journey.arrival) empty
      ∙ ap (λ o. moves_along v route [] o) none in
      let least = (on_time p sound wait binds p.horizon (omega arith)).waits v b
      (slice_get_within p.trips v trip t) (first_is ∙ e)
      (not_here v (trace_after p p.horizon) quiet) in
      let d = departs in
      omega (arith, least, d)

  later : journey.arrival ≡ None → p.horizon ≤ arrival_free
  later none =
      by route journey.entries some_link gone.within first next_entries (stays none)
      (λ b e empty. not_yet b e none empty)
    where
      by : (links : List LinkNo) (entries : List ℕ) → 1 ≤ length links
          → length entries ≤ length links
          → ((b : ℕ) → slice_get (link_numbers links) 0 ≡ Some b → 0 < length entries
          → slice_index entries 0 ≡ trip.departure)
          → NextEntries p (link_numbers links) entries
          → ((i : ℕ) → suc i ≡ length entries
          → p.horizon ≤ slice_index entries i + (link_at p (link_on links i)).free
          + penalty_to p (link_on links i) (target_at (slice_get (link_numbers links) (suc i))))
          → ((b : ℕ) → slice_get (link_numbers links) 0 ≡ Some b → entries ≡ []
          → p.horizon ≤ trip.departure)
          → p.horizon ≤ arrival_step (free_flow p) p.net trip.departure (link_numbers links)
      by [] entries some few start next last yet = absurd (omega (arith, some))
      by (l ∷ links) [] some few start next last yet =
          let least = yet l.0 refl refl in
          let low = walk_least p trip.departure l.0 (link_numbers links) in
          omega (arith, least, low)
      by (l ∷ links) (x ∷ entries) some few start next last yet =
          let size = length-map links (λ n. n.0) in
          arrives_later p trip.departure l.0 x (link_numbers links) entries
          (sym (start l.0 refl (omega arith))) (omega (arith, few, size)) next last

pub trips_are_at_free_flow : TripsAreAtFreeFlow
trips_are_at_free_flow p wait sound binds v trip route journey t r there = record {
  arrives = λ arrival out.
      let is = arrives p sound wait binds v trip route journey t r there arrival out in
      let low = not_before p sound wait binds v trip route journey t r there in
      omega (arith, is, low);
  later = λ none.
      let is = later p sound wait binds v trip route journey t r there none in
      let low = not_before p sound wait binds v trip route journey t r there in
      omega (arith, is, low);
}
