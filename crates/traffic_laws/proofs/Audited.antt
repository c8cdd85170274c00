-- The agents and the link times of a loading that are written pass an audit.
use Rattle.std.specs.Prelude.{is_some, nat_lt, option_map, slice_get, slice_index, IfSome}
use Rattle.std.specs.List.{enumerate_from, flat_map, zip}
use Rattle.std.proofs.Common.{◌≡◌, ℕ, suc, ◌+◌, ◌*◌, ◌/◌, ◌%◌, ◌<◌, ◌≤◌, true, false, List}
use Rattle.std.proofs.Common.{[], ◌∷◌, length, map, Ok, Option, None, Some, refl, ap}
use Rattle.std.proofs.Common.{sym, ◌∙◌, subst, arith, inl, inr, get_or, le-ltb, lt-ltb}
use Rattle.std.proofs.lemmas.List.{length-map}
use Rattle.std.proofs.lemmas.Option.{get_or_from_slice_get, same_Some}
use Rattle.std.proofs.lemmas.Option.{slice_get-get_or, slice_get-map}
use native.Mathlib.Nat.{div-add-mod', mod-lt, mul-div_cancel}
use Rattle.fixed_units.specs.declared.identifier.TheConstants.{GREATEST_IDENTIFIER}
use Rattle.row_reader.specs.Records.{records}
use Rattle.net_core.specs.declared.rows.LinkNo.{LinkNo}
use Rattle.net_core.specs.declared.rows.NetRows.{NetRows}
use Rattle.dta_model.specs.LinkTimes.{bucket_count, buckets_to, entered_in, place_in, table_in}
use Rattle.dta_model.specs.LinkTimes.{table_of, time_at}
use Rattle.dta_model.specs.Loading.{arrival_of, entries_of, journey_of, journeys_of}
use Rattle.dta_model.specs.Sound.{IsSound}
use Rattle.dta_model.specs.declared.loaded.Journey.{Journey}
use Rattle.dta_model.specs.declared.plan.Plan.{Plan}
use Rattle.dta_model.specs.declared.trip.Trip.{Trip}
use Rattle.dta_model.proofs.Ends.{journey_is, map_some}
use Rattle.dta_model.proofs.Steady.{all_at}
use Rattle.start_table.specs.Starts.{IsNamedWalk}
use Rattle.link_times.proofs.Gone.{unrouted}
use Rattle.link_times.proofs.Places.{bucket_inside}
use Rattle.skims.specs.declared.time_rows.TimeRow.{TimeRow}
use Rattle.reports.specs.Texts.{agent_text_by, ids_of}
use Rattle.agent_table.specs.Agents.{agents_verdict}
use Rattle.audit.specs.Audit.{IsAudit, all_journey_checks, all_time_checks, all_trip_checks}
use Rattle.audit.specs.Audit.{checks_of, journey_checks, journey_checks_at, missing_checks}
use Rattle.audit.specs.Audit.{route_named, routes_named, status_text, time_checks, trip_checks}
use Rattle.audit.specs.Audit.{trip_checks_at}
use Rattle.audit.specs.Checks.{Check, Holds, IsVerdict, names_route}
use Rattle.agent_table.specs.declared.rows.AgentRow.{AgentRow}
use Rattle.audit.specs.declared.verdict.Verdict.TheVariants.{Yes}
use Rattle.audit.proofs.Routed.{walk_is_route}
use Rattle.audit.proofs.Verdicts.{determined, yes_then}
use Rattle.audit.proofs.Whole.{passes_before}
use Rattle.traffic_laws.proofs.AgentLines.{Agent, arrival-at, entries-at, ids-at}
use Rattle.traffic_laws.proofs.AgentLines.{status-at, text-is}
use Rattle.traffic_laws.proofs.AuditLines.{StepsFit, lines-accepted, row-audited}
use Rattle.traffic_laws.proofs.InRange.{bucket_begins}
use Rattle.traffic_laws.proofs.ReadBack.{link_times_are_read_back}
use Rattle.traffic_laws.proofs.RoutesBack.{agents, agents-many, arrival-below, at, entries-below}
use Rattle.traffic_laws.proofs.RoutesBack.{fits-at, journey-early, names-own, number-is, on-net}
use Rattle.traffic_laws.proofs.RoutesBack.{rise, vehicle-at, zip-at}
use Rattle.traffic_laws.specs.RoundTrips.{AnAuditSaysYes, AreIterationsTold, AreReadBack}
use Rattle.traffic_laws.specs.RoundTrips.{HasIdentifiersInRange, made_as}

-- ---- lists

-- the verdict of the checks of rows is yes where that of each row's is
rows-hold : {X : Type 0} (f : ℕ × X → List Check) (k : ℕ) (xs : List X)
    → ((i : ℕ) (x : X) → slice_get xs i ≡ Some x → IsVerdict (f (k + i, x)) Yes)
    → IsVerdict (flat_map f (enumerate_from k xs)) Yes
rows-hold f k [] h = refl
rows-hold f k (x ∷ xs) h =
    let first : k + 0 ≡ k = omega arith in
    yes_then (f (k, x)) (flat_map f (enumerate_from (k + 1) xs)) Yes
    (subst (λ n. IsVerdict (f (n, x)) Yes) first (h 0 x refl))
    (rows-hold f (k + 1) xs (λ i y e.
    let next : k + suc i ≡ k + 1 + i = omega arith in
    subst (λ n. IsVerdict (f (n, y)) Yes) next (h (suc i) y e)))

all-hold : {X : Type 0} (f : ℕ × X → List Check) (xs : List X)
    → ((i : ℕ) (x : X) → slice_get xs i ≡ Some x → IsVerdict (f (i, x)) Yes)
    → IsVerdict (flat_map f (enumerate_from 0 xs)) Yes
all-hold f xs h =
    rows-hold f 0 xs (λ i x e.
    let place : i ≡ 0 + i = omega arith in
    subst (λ n. IsVerdict (f (n, x)) Yes) place (h i x e))

-- lists of one length with the same at each place
same-at : {X : Type 0} (xs ys : List X) → length xs ≡ length ys
    → ((i : ℕ) (x : X) → slice_get xs i ≡ Some x → slice_get ys i ≡ Some x) → xs ≡ ys
same-at [] [] many h = refl
same-at [] (y ∷ ys) many h = absurd (omega (arith, many))
same-at (x ∷ xs) [] many h = absurd (omega (arith, many))
same-at (x ∷ xs) (y ∷ ys) many h =
    let first : y ≡ x = same_Some y x (h 0 x refl) in
    ap (λ z. z ∷ xs) (sym first)
    ∙ ap (λ L. y ∷ L) (same-at xs ys (omega (arith, many)) (λ i z e. h (suc i) z e))

-- ---- routes

-- the identifiers of a route name it, and those of none name none
route-own : (net : NetRows) (trip : Trip) (route : Option (List LinkNo))
    → IfSome route (λ way. IsNamedWalk net trip.origin trip.destination (ids_of net way) way)
    → route_named net (ids-at net route) ≡ route
route-own net trip None h = refl
route-own net trip (Some way) h =
    sym (walk_is_route net trip.origin trip.destination (ids_of net way) way h)

route-holds : (net : NetRows) (trip : Trip) (route : Option (List LinkNo))
    → IfSome route (λ way. IsNamedWalk net trip.origin trip.destination (ids_of net way) way)
    → Holds (names_route net trip (ids-at net route))
route-holds net trip None h = inl refl
route-holds net trip (Some way) h = inr (way, h)

-- a vehicle without a route has no journey
unmoved : (p : Plan) (v : ℕ) → IsSound p → slice_get p.routes v ≡ Some None
    → journey_of p v ≡ record { entries = []; arrival = None }
unfolding journey_of entries_of arrival_of
unmoved p v sound e = let none = unrouted p sound v e in rw none refl

-- ---- what is told of a journey
record IsTold (net : NetRows) (route : Option (List LinkNo)) (j : Journey) : Type 0 where
  arrival : arrival-at route j ≡ j.arrival
  status : status-at route j ≡ status_text (ids-at net route) j
  entries : entries-at route j ≡ j.entries

told-none : (net : NetRows) (j : Journey) → j ≡ record { entries = []; arrival = None }
    → IsTold net None j
told-none net j e = record {
  arrival = ap (λ (k : Journey). k.arrival) (sym e);
  status = refl;
  entries = ap (λ (k : Journey). k.entries) (sym e);
}

told-some : (net : NetRows) (way : List LinkNo) (j : Journey) → 1 ≤ length way
    → IsTold net (Some way) j
told-some net [] j some = absurd (omega (arith, some))
told-some net (l ∷ way) j some =
    let test : nat_lt 0 (length (ids_of net (l ∷ way))) ≡ true =
    lt-ltb 0 (length (ids_of net (l ∷ way))) (omega arith) in
    record { arrival = refl; status = rw test refl; entries = refl }

-- ---- the agents of a sound loading
module _ (p : Plan) (since : Option (List ℕ)) (sound : IsSound p) (ids : HasIdentifiersInRange p)
    (told : AreIterationsTold p since) where
  abbrev vehicles-told : List Agent
  vehicles-told = agents p since sound ids told

  abbrev rows : List AgentRow
  rows = map (row-audited p.net (is_some since)) vehicles-told

  low : (n : ℕ) → n < p.horizon → n ≤ GREATEST_IDENTIFIER
  low n h = let most = sound.horizon_most in omega (arith, h, most)

  record IsOf (i : ℕ) (a : Agent) : Type 0 where
    number : a.0.trip.number ≡ i
    trip : slice_get p.trips i ≡ Some a.0.trip
    route : slice_get p.routes i ≡ Some a.0.route
    journey : slice_get (journeys_of p) i ≡ Some a.0.journey

  of-vehicle : (i : ℕ) (a : Agent) → slice_get vehicles-told i ≡ Some a → IsOf i a
  of-vehicle i a e =
      let own = at p since sound ids told i a e in
      let v = vehicle-at p.trips p.routes (journeys_of p) i a.0 own.vehicle in
      record {
        number = number-is p since sound ids told i a.0.trip v.trip;
        trip = v.trip;
        route = v.route;
        journey = v.journey;
      }

  steps-fit : (i : ℕ) (a : Agent) → slice_get vehicles-told i ≡ Some a
      → StepsFit p.net (is_some since) a
  steps-fit i a e =
      let v = of-vehicle i a e in
      let early = journey-early p i a.0.journey v.journey in
      record {
        fits = fits-at p since sound ids told i a e;
        departure = low a.0.trip.departure
            (all_at (λ t. t.departure < p.horizon) p.trips i a.0.trip sound.early v.trip);
        arrival = arrival-below p since sound ids told (λ n. n ≤ GREATEST_IDENTIFIER) low a.0.route
            a.0.journey early;
        entries = entries-below p since sound ids told (λ n. n ≤ GREATEST_IDENTIFIER) low a.0.route
            a.0.journey early;
      }

  accepted : agents_verdict (records (agent_text_by p.net p.trips p.routes (journeys_of p) since))
      ≡ Ok rows
  accepted =
      ap (λ t. agents_verdict (records t)) (text-is p.net p.trips p.routes (journeys_of p) since)
      ∙ lines-accepted p.net (is_some since) vehicles-told
      (λ i d h. steps-fit i (get_or vehicles-told i d) (slice_get-get_or vehicles-told i d h))
      (rise p since sound ids told)

  rows-many : length rows ≡ length p.trips
  rows-many =
      length-map vehicles-told (row-audited p.net (is_some since))
      ∙ agents-many p since sound ids told

  -- the vehicle of a row
  row-of : (i : ℕ) (row : AgentRow) → slice_get rows i ≡ Some row
      → (a : Agent) × (row-audited p.net (is_some since) a ≡ row) × IsOf i a
  row-of i row e =
      let x = map_some (row-audited p.net (is_some since)) (slice_get vehicles-told i) row
      (sym (slice_get-map (row-audited p.net (is_some since)) vehicles-told i) ∙ e) in
      (x.0, x.2, of-vehicle i x.0 x.1)

  named : (i : ℕ) (trip : Trip) (route : Option (List LinkNo)) → slice_get p.trips i ≡ Some trip
      → slice_get p.routes i ≡ Some route
      → IfSome route (λ way. IsNamedWalk p.net trip.origin trip.destination (ids_of p.net way) way)
  named i trip None et er = tt
  named i trip (Some way) et er = record {
    names = names-own p.net way sound.net.links.distinct
        (on-net p since sound ids told i (Some way) er);
    walks = sound.walks i trip way et er;
  }

  routes-are : routes_named p.net rows ≡ p.routes
  routes-are =
      let many = rows-many in
      let each = sound.each in
      same-at (routes_named p.net rows) p.routes
      (length-map rows (λ (row : AgentRow). route_named p.net row.links)
      ∙ omega (arith, many, each))
      (λ i route e.
      let x = map_some (λ (row : AgentRow). route_named p.net row.links) (slice_get rows i) route
      (sym (slice_get-map (λ (row : AgentRow). route_named p.net row.links) rows i) ∙ e) in
      let y = row-of i x.0 x.1 in
      let own : IsOf i y.0 = y.2 in
      own.route
      ∙ ap Some (sym (route-own p.net y.0.0.trip y.0.0.route
      (named i y.0.0.trip y.0.0.route own.trip own.route))
      ∙ ap (λ (row : AgentRow). route_named p.net row.links) y.1 ∙ x.2))

  -- ---- checks of rows
  trips-hold : IsVerdict (all_trip_checks p.net p.trips rows) Yes
  unfolding all_trip_checks
  trips-hold =
      all-hold (trip_checks_at p.net p.trips) rows (λ i row e.
      let y = row-of i row e in
      let own : IsOf i y.0 = y.2 in
      let way = route-holds p.net y.0.0.trip y.0.0.route
      (named i y.0.0.trip y.0.0.route own.trip own.route) in
      subst (λ (r : AgentRow). IsVerdict (trip_checks_at p.net p.trips (i, r)) Yes) y.1
      (subst (λ o. IsVerdict (trip_checks p.net i o (row-audited p.net (is_some since) y.0)) Yes)
      (sym own.trip) (inl (own.number, inl (refl, inl (refl, inl (refl, inl (way, refl))))))))

  none-missing : IsVerdict (missing_checks p.trips rows) Yes
  none-missing =
      let many = rows-many in
      let test : nat_lt (length rows) (length p.trips) ≡ false =
      le-ltb (length rows) (length p.trips) (omega (arith, many)) in
      rw test refl

  is-told : (i : ℕ) (trip : Trip) (route : Option (List LinkNo)) (j : Journey)
      → slice_get p.trips i ≡ Some trip → slice_get p.routes i ≡ Some route
      → slice_get (journeys_of p) i ≡ Some j → IsTold p.net route j
  is-told i trip None j et er ej = told-none p.net j (journey_is p i j ej ∙ unmoved p i sound er)
  is-told i trip (Some way) j et er ej =
      let walks = sound.walks i trip way et er in
      let some = walks.some in
      let many = length-map way (λ (l : LinkNo). l.0) in
      told-some p.net way j (omega (arith, some, many))

  journeys-hold : IsVerdict (all_journey_checks rows (journeys_of p)) Yes
  unfolding all_journey_checks
  journeys-hold =
      all-hold journey_checks_at (zip rows (journeys_of p)) (λ i z e.
      let both = zip-at rows (journeys_of p) i z e in
      let y = row-of i z.0 both.0 in
      let own : IsOf i y.0 = y.2 in
      let same : y.0.0.journey ≡ z.1 =
      same_Some y.0.0.journey z.1 (sym own.journey ∙ both.1) in
      let k = is-told i y.0.0.trip y.0.0.route y.0.0.journey own.trip own.route own.journey in
      subst (λ (r : AgentRow). IsVerdict (journey_checks i r z.1) Yes) y.1
      (subst (λ (j : Journey). IsVerdict
      (journey_checks i (row-audited p.net (is_some since) y.0) j) Yes) same
      (inl (k.arrival, inl (k.status, inl (k.entries, refl))))))

-- ---- the link times of a sound loading
module _ (p : Plan) (bucket : ℕ) (sound : IsSound p) (some : 1 ≤ bucket)
    (back : AreReadBack p bucket) where
  count-is : bucket_count (table_of p bucket) ≡ buckets_to bucket p.horizon
  unfolding table_in
  count-is = refl

  buckets-some : 1 ≤ buckets_to bucket p.horizon
  buckets-some =
      let inside = bucket_inside bucket p.horizon 0 some sound.horizon_least in
      omega (arith, inside)

  place-is : (r : ℕ) → place_in (buckets_to bucket p.horizon) (r / buckets_to bucket p.horizon)
      (r % buckets_to bucket p.horizon)
      ≡ r
  place-is r = div-add-mod' r (buckets_to bucket p.horizon)

  -- a number of a row is that at its place
  told-at : (f : TimeRow → ℕ) (numbers : List ℕ) (r : ℕ) (row : TimeRow)
      → map f back.rows ≡ numbers → slice_get back.rows r ≡ Some row
      → f row ≡ slice_index numbers r
  told-at f numbers r row is e =
      sym (get_or_from_slice_get numbers r (f row) 0
      (ap (λ L. slice_get L r) (sym is) ∙ slice_get-map f back.rows r ∙ ap (option_map f) e))

  entered-at : (r : ℕ) (row : TimeRow) → slice_get back.rows r ≡ Some row
      → row.entered
      ≡ entered_in (table_of p bucket) (r / bucket_count (table_of p bucket))
      (r % bucket_count (table_of p bucket))
  unfolding entered_in table_in
  entered-at r row e =
      told-at (λ row. row.entered) (table_of p bucket).entered r row back.entered e
      ∙ ap (slice_index (table_of p bucket).entered) (sym (place-is r))

  travel-at : (r : ℕ) (row : TimeRow) → slice_get back.rows r ≡ Some row
      → row.travel
      ≡ time_at (table_of p bucket) (r / bucket_count (table_of p bucket))
      (r % bucket_count (table_of p bucket) * (table_of p bucket).bucket)
  unfolding time_at table_in
  travel-at r row e =
      let b : ℕ = r % buckets_to bucket p.horizon in
      let inside : b < buckets_to bucket p.horizon =
      mod-lt r buckets-some in
      let begins = bucket_begins bucket p.horizon b some inside in
      let test : nat_lt (b * bucket) p.horizon ≡ true = lt-ltb (b * bucket) p.horizon begins in
      told-at (λ row. row.travel) (table_of p bucket).times r row back.travel e
      ∙ ap (slice_index (table_of p bucket).times) (sym (place-is r))
      ∙ rw (test, mul-div_cancel b some) refl

  times-hold : IsVerdict (all_time_checks (table_of p bucket) back.rows) Yes
  unfolding all_time_checks
  times-hold =
      all-hold (time_checks (table_of p bucket)) back.rows
      (λ r row e. inl (entered-at r row e, inl (travel-at r row e, refl)))

-- ---- both
says-yes : (p : Plan) (since : Option (List ℕ)) (bucket : ℕ) (sound : IsSound p)
    (ids : HasIdentifiersInRange p) (told : AreIterationsTold p since) (some : 1 ≤ bucket)
    (back : AreReadBack p bucket)
    → IsAudit p.net p.trips (rows p since sound ids told) back.rows (made_as p bucket) Yes
says-yes p since bucket sound ids told some back =
    let agents = rows p since sound ids told in
    passes_before p.net p.trips agents back.rows (made_as p bucket) p.routes Yes Yes refl
    (yes_then (all_trip_checks p.net p.trips agents) (missing_checks p.trips agents) Yes
    (trips-hold p since sound ids told) (none-missing p since sound ids told))
    (sym (routes-are p since sound ids told))
    (yes_then (all_journey_checks agents (journeys_of p))
    (all_time_checks (table_of p bucket) back.rows) Yes
    (journeys-hold p since sound ids told) (times-hold p bucket sound some back))

pub an_audit_says_yes : AnAuditSaysYes
an_audit_says_yes p since bucket sound limits ids told some =
    let back = link_times_are_read_back p bucket sound limits some in
    let yes = says-yes p since bucket sound ids told some back in
    record {
      agents = rows p since sound ids told;
      times = back.rows;
      agents_accepted = accepted p since sound ids told;
      times_accepted = back.accepted;
      yes = yes;
      only = λ v h. determined (checks_of p.net p.trips (rows p since sound ids told) back.rows
          (made_as p bucket)) v Yes h yes;
    }
