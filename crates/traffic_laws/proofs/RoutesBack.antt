-- The agents of a loading that are written are read back as a start table, with the same routes.
use Rattle.trip_costs.specs.Timings.{Links}
use Rattle.std.specs.Prelude.{is_some, nat_lt, option_map, slice_get, IfSome}
use Rattle.std.specs.List.{IsDistinct, position_or_len, range_with_len, zip}
use Rattle.std.proofs.Common.{◌≡◌, ℕ, zero, suc, ◌+◌, ◌^◌, ◌<◌, ◌≤◌, true, false, List, [], ◌∷◌}
use Rattle.std.proofs.Common.{length, map, All, Ok, Option, None, Some, refl, ap, sym, ◌∙◌}
use Rattle.std.proofs.Common.{subst, arith, inl, inr, eq-eqb, get_or, lt-ltb, nat_eq, ne_eqb}
use Rattle.std.proofs.lemmas.List.{get_or-map, length-map}
use Rattle.std.proofs.lemmas.List.Elements.{All-filter, All-head, All-map, All-nil, All-pop}
use Rattle.std.proofs.lemmas.List.Elements.{All-tail, All-weaker}
use Rattle.std.proofs.lemmas.List.FromFn.{get_or-range_with_len, length-range_with_len}
use Rattle.std.proofs.lemmas.List.Sums.{position_or_len_is}
use Rattle.std.proofs.lemmas.Slice.Zip.{firsts-zip}
use Rattle.std.proofs.lemmas.Map.Keys.{IsDistinct-from_apart, apart_from_distinct}
use Rattle.std.proofs.lemmas.Option.{IfSome_then, get_or_from_slice_get, none-some, same_Some}
use Rattle.std.proofs.lemmas.Option.{slice_get-get_or, slice_get-map, slice_get_within}
use Rattle.std.proofs.lemmas.Simd.{map-map}
use Rattle.fixed_units.specs.declared.identifier.TheConstants.{GREATEST_IDENTIFIER}
use Rattle.row_reader.specs.Records.{records}
use Rattle.net_core.specs.Ids.{place_of}
use Rattle.net_core.specs.Network.{link_at, numbers_below}
use Rattle.net_core.specs.Rows.{link_ids, link_named, no_link}
use Rattle.net_core.specs.declared.rows.LinkNo.{LinkNo}
use Rattle.net_core.specs.declared.rows.LinkRow.{LinkRow}
use Rattle.net_core.specs.declared.rows.NetRows.{NetRows}
use Rattle.dta_model.specs.Loading.{journey_of, journeys_of, trace_after}
use Rattle.dta_model.specs.Plans.{vehicles_of}
use Rattle.dta_model.specs.Sound.{IsSound}
use Rattle.dta_model.specs.Trace.{Move, is_of, moves_of}
use Rattle.dta_model.specs.declared.loaded.Journey.{Journey}
use Rattle.dta_model.specs.declared.plan.Plan.{Plan}
use Rattle.dta_model.specs.declared.trip.Trip.{Trip}
use Rattle.dta_model.proofs.Ends.{got_number, journey_is, map_some}
use Rattle.dta_model.proofs.Journeys.{steps_below}
use Rattle.dta_model.proofs.Steady.{all_at}
use Rattle.start_table.proofs.Named.{named_once, one_row, row_tells}
use Rattle.start_table.specs.StartTable.{start_verdict}
use Rattle.start_table.specs.Starts.{AreNamed, AreStartRows, TellsFit, TellsStart, agents_of}
use Rattle.start_table.specs.Starts.{IsStarted, row_of}
use Rattle.start_table.specs.declared.rows.StartRow.{StartRow}
use Rattle.route_flows.specs.Averages.{AreStartedRoutes, StartsOn}
use Rattle.route_flows.specs.Selection.{free_time}
use Rattle.grid_maker.proofs.LinesFacts.{place-there}
use Rattle.reports.proofs.TextsFacts.{length-vehicles, walks-on-net}
use Rattle.reports.specs.Texts.{AreLinksOf, Vehicle, agent_text_by, ids_of, vehicles}
use Rattle.traffic_laws.proofs.AgentLines.{Agent, AgentFits, agents-accepted, agents-with}
use Rattle.traffic_laws.proofs.AgentLines.{arrival-at, entries-at, ids-at, number-in, row-told}
use Rattle.traffic_laws.proofs.AgentLines.{text-is}
use Rattle.traffic_laws.proofs.Journeying.{steps_are, steps_in}
use Rattle.traffic_laws.proofs.ReadBack.{link-there}
use Rattle.traffic_laws.specs.RoundTrips.{AreIterationsTold, HasIdentifiersInRange}
use Rattle.traffic_laws.specs.RoundTrips.{RoutesAreReadBack, IsRowOf}

-- ---- links by their identifiers

-- an identifier that no other is equal to has its own place
place-own : (ids : List ℕ) (i : ℕ) → IsDistinct nat_eq ids → i < length ids
    → place_of ids (get_or ids i 0) ≡ Some i
place-own ids i apart h =
    let at : position_or_len (nat_eq (get_or ids i 0)) ids ≡ i =
    position_or_len_is (nat_eq (get_or ids i 0)) ids i 0 (omega (arith, h)) other
    (λ b. eq-eqb (get_or ids i 0) (get_or ids i 0) refl) in
    let t : nat_lt i (length ids) ≡ true = lt-ltb i (length ids) h in
    rw (at, t) refl
  where
    other : (k : ℕ) → k < i → nat_eq (get_or ids i 0) (get_or ids k 0) ≡ false
    other k b =
        ne_eqb (get_or ids i 0) (get_or ids k 0) (λ e.
        let differ = apart_from_distinct nat_eq ids k i 0 apart b h in
        let both : true ≡ false =
        sym (eq-eqb (get_or ids k 0) (get_or ids i 0) (sym e)) ∙ differ in
        cc)

id-is : (net : NetRows) (l : ℕ) → l < length net.links
    → get_or (link_ids net.links) l 0 ≡ (link_at net l).id
id-is net l h =
    get_or-map (λ (link : LinkRow). link.id) net.links l no_link 0 h
    ∙ ap (λ (link : LinkRow). link.id)
    (get_or_from_slice_get net.links l (link_at net l) no_link (link-there net l h))

named-own : (net : NetRows) (l : LinkNo) → IsDistinct nat_eq (link_ids net.links)
    → l.0 < length net.links → link_named net.links (link_at net l.0).id ≡ Some l
named-own net l apart h =
    let many = length-map net.links (λ link. link.id) in
    ap (λ o. option_map (λ place. record { 0 = place }) o)
    (subst (λ id. place_of (link_ids net.links) id ≡ Some l.0) (id-is net l.0 h)
    (place-own (link_ids net.links) l.0 apart (omega (arith, many, h))))

-- so the identifiers of a route name it
pub names-own : (net : NetRows) (route : List LinkNo) → IsDistinct nat_eq (link_ids net.links)
    → AreLinksOf net route → AreNamed net (ids_of net route) route
names-own net [] apart all = refl
names-own net (l ∷ route) apart all =
    let first = named-own net l apart (All-head (λ l. l.0 < length net.links) l route all) in
    ap (λ o. o ∷ map (link_named net.links) (ids_of net route)) first
    ∙ ap (λ L. Some l ∷ L)
    (names-own net route apart (All-tail (λ l. l.0 < length net.links) l route all))

ids-small : (net : NetRows) (route : List LinkNo)
    → All (λ link. link.id ≤ GREATEST_IDENTIFIER) net.links → AreLinksOf net route
    → All (λ n. n ≤ GREATEST_IDENTIFIER) (ids_of net route)
ids-small net route small all =
    All-map (λ n. n ≤ GREATEST_IDENTIFIER) (λ l. (link_at net l.0).id) route (λ i d h.
    let l : ℕ = (get_or route i d).0 in
    let inside : l < length net.links = all i d h in
    let id = small l no_link inside in
    let is = get_or-map (λ (link : LinkRow). link.id) net.links l no_link 0 inside in
    let same = id-is net l inside in
    omega (arith, id, is, same))

-- ---- journeys

-- each step of a journey is below the horizon
steps-early : (p : Plan) (v : ℕ) → All (λ s. s < p.horizon) (steps_in (journey_of p v))
unfolding moves_of
steps-early p v =
    subst (λ L. All (λ s. s < p.horizon) L) (steps_are p v)
    (All-map (λ s. s < p.horizon) (λ (m : Move). m.step) (moves_of v (trace_after p p.horizon))
    (All-filter (is_of v) (λ (m : Move). m.step < p.horizon) (trace_after p p.horizon)
    (steps_below p p.horizon)))

pub journey-early : (p : Plan) (v : ℕ) (j : Journey) → slice_get (journeys_of p) v ≡ Some j
    → All (λ s. s < p.horizon) (steps_in j)
journey-early p v j e =
    subst (λ (y : Journey). All (λ s. s < p.horizon) (steps_in y)) (sym (journey_is p v j e))
    (steps-early p v)

-- ---- vehicles

pub record IsAt (trips : List Trip) (routes : List (Option (List LinkNo))) (journeys : List Journey)
    (i : ℕ) (v : Vehicle) : Type 0 where
  pub trip : slice_get trips i ≡ Some v.trip
  pub route : slice_get routes i ≡ Some v.route
  pub journey : slice_get journeys i ≡ Some v.journey

pub vehicle-at : (trips : List Trip) (routes : List (Option (List LinkNo)))
    (journeys : List Journey) (i : ℕ) (v : Vehicle)
    → slice_get (vehicles trips routes journeys) i ≡ Some v → IsAt trips routes journeys i v
unfolding vehicles
vehicle-at [] routes journeys i v e = absurd (none-some v e)
vehicle-at (t ∷ trips) [] journeys i v e = absurd (none-some v e)
vehicle-at (t ∷ trips) (r ∷ routes) [] i v e = absurd (none-some v e)
vehicle-at (t ∷ trips) (r ∷ routes) (j ∷ journeys) zero v e =
    let same = same_Some (record { trip = t; route = r; journey = j }) v e in
    record {
      trip = ap (λ (w : Vehicle). Some w.trip) same;
      route = ap (λ (w : Vehicle). Some w.route) same;
      journey = ap (λ (w : Vehicle). Some w.journey) same;
    }
vehicle-at (t ∷ trips) (r ∷ routes) (j ∷ journeys) (suc i) v e =
    let rest = vehicle-at trips routes journeys i v e in
    record { trip = rest.trip; route = rest.route; journey = rest.journey }

vehicle-trips : (trips : List Trip) (routes : List (Option (List LinkNo)))
    (journeys : List Journey) → length routes ≡ length trips → length journeys ≡ length trips
    → map (λ v. v.trip) (vehicles trips routes journeys) ≡ trips
unfolding vehicles
vehicle-trips [] routes journeys a b = refl
vehicle-trips (t ∷ trips) [] journeys a b = absurd (omega (arith, a))
vehicle-trips (t ∷ trips) (r ∷ routes) [] a b = absurd (omega (arith, b))
vehicle-trips (t ∷ trips) (r ∷ routes) (j ∷ journeys) a b =
    ap (λ L. t ∷ L) (vehicle-trips trips routes journeys (omega (arith, a)) (omega (arith, b)))

-- ---- vehicles with their iterations

pub zip-at : {A B : Type 0} (xs : List A) (ys : List B) (i : ℕ) (z : A × B)
    → slice_get (zip xs ys) i ≡ Some z
    → (slice_get xs i ≡ Some z.0) × (slice_get ys i ≡ Some z.1)
zip-at [] ys i z e = absurd (none-some z e)
zip-at (x ∷ xs) [] i z e = absurd (none-some z e)
zip-at (x ∷ xs) (y ∷ ys) zero z e =
    let same = same_Some (x, y) z e in
    (ap (λ w. Some w.0) same, ap (λ w. Some w.1) same)
zip-at (x ∷ xs) (y ∷ ys) (suc i) z e = zip-at xs ys i z e

-- the iteration of a vehicle at a place is told where iterations are, and is small
pub record IsToldAt (vs : List Vehicle) (since : Option (List ℕ)) (i : ℕ) (a : Agent) : Type 0 where
  pub vehicle : slice_get vs i ≡ Some a.0
  pub told : is_some a.1 ≡ is_some since
  pub small : IfSome a.1 (λ n. n < 2 ^ 64)

agent-at : (vs : List Vehicle) (since : Option (List ℕ)) (i : ℕ) (a : Agent)
    → IfSome since (λ told. All (λ n. n ≤ GREATEST_IDENTIFIER) told)
    → slice_get (agents-with vs since) i ≡ Some a → IsToldAt vs since i a
agent-at vs None i a h e =
    let x = map_some (λ (v : Vehicle). (v, None)) (slice_get vs i) a
    (sym (slice_get-map (λ (v : Vehicle). (v, None)) vs i) ∙ e) in
    record {
      vehicle = x.1 ∙ ap (λ (b : Agent). Some b.0) x.2;
      told = ap (λ (b : Agent). is_some b.1) (sym x.2);
      small = subst (λ (b : Agent). IfSome b.1 (λ n. n < 2 ^ 64)) x.2 tt;
    }
agent-at vs (Some ns) i a h e =
    let x = map_some (λ (z : Vehicle × ℕ). (z.0, Some z.1)) (slice_get (zip vs ns) i) a
    (sym (slice_get-map (λ (z : Vehicle × ℕ). (z.0, Some z.1)) (zip vs ns) i) ∙ e) in
    let both = zip-at vs ns i x.0 x.1 in
    let low = all_at (λ n. n ≤ GREATEST_IDENTIFIER) ns i x.0.1 h both.1 in
    record {
      vehicle = both.0 ∙ ap (λ (b : Agent). Some b.0) x.2;
      told = ap (λ (b : Agent). is_some b.1) (sym x.2);
      small = subst (λ (b : Agent). IfSome b.1 (λ n. n < 2 ^ 64)) x.2 (short x.0.1 low);
    }
  where
    short : (n : ℕ) → n ≤ GREATEST_IDENTIFIER → n < 2 ^ 64
    short n l = omega (arith, l)

agent-trips : (vs : List Vehicle) (since : Option (List ℕ))
    → IfSome since (λ told. length told ≡ length vs)
    → map (λ a. a.0.trip) (agents-with vs since) ≡ map (λ v. v.trip) vs
agent-trips vs None h = map-map (λ (a : Agent). a.0.trip) (λ (v : Vehicle). (v, None)) vs
agent-trips vs (Some ns) h =
    map-map (λ (a : Agent). a.0.trip) (λ (z : Vehicle × ℕ). (z.0, Some z.1)) (zip vs ns)
    ∙ sym (map-map (λ (v : Vehicle). v.trip) (λ (z : Vehicle × ℕ). z.0) (zip vs ns))
    ∙ ap (map (λ (v : Vehicle). v.trip)) (firsts-zip vs ns h)

one-more : (from n : ℕ)
    → map (λ k. k + 1) (range_with_len from n) ≡ range_with_len (from + 1) n
one-more from zero = refl
one-more from (suc n) = ap (λ L. (from + 1) ∷ L) (one-more (from + 1) n)

range-distinct : (n : ℕ) → IsDistinct nat_eq (numbers_below n)
range-distinct n =
    IsDistinct-from_apart nat_eq (numbers_below n) (λ i j d b h.
    let many = length-range_with_len 0 n in
    let first = get_or-range_with_len 0 n i d (omega (arith, b, h, many)) in
    let second = get_or-range_with_len 0 n j d (omega (arith, h, many)) in
    ne_eqb (get_or (numbers_below n) i d) (get_or (numbers_below n) j d)
    (λ e. omega (arith, e, first, second, b)))

-- a row without links fits no vehicle
no-links : (net : NetRows) (trip : Trip) (row : StartRow) → row.links ≡ []
    → TellsFit net trip row None
no-links net trip row none walk fits = by walk (ap (map (link_named net.links)) (sym none)
    ∙ fits.names) fits.walks.some
  where
    by : (walk : List LinkNo) → [] ≡ map Some walk → 1 ≤ length (map (λ (l : LinkNo). l.0) walk) → ⊥
    by [] e some = absurd (omega (arith, some))
    by (l ∷ walk) e some = cc

-- what the row of a vehicle tells
fit-of : (net : NetRows) (trip : Trip) (route : Option (List LinkNo)) (row : StartRow)
    → IsRowOf net trip route row → TellsFit net trip row route
fit-of net trip None row told = no-links net trip row told.1
fit-of net trip (Some route) row told = told

no-trip : Trip
no-trip = record { number = 0; origin = 0; destination = 0; departure = 0 }

-- ---- the table of a sound loading
module _ (p : Plan) (since : Option (List ℕ)) (sound : IsSound p) (ids : HasIdentifiersInRange p)
    (told : AreIterationsTold p since) where
  abbrev pub all-vehicles : List Vehicle
  all-vehicles = vehicles p.trips p.routes (journeys_of p)

  abbrev pub agents : List Agent
  agents = agents-with all-vehicles since

  journeys-many : length (journeys_of p) ≡ length p.trips
  unfolding journeys_of
  journeys-many =
      length-map (vehicles_of p) (journey_of p) ∙ length-range_with_len 0 (length p.trips)

  trips-are : map (λ a. a.0.trip) agents ≡ p.trips
  trips-are =
      agent-trips all-vehicles since (IfSome_then since told (λ ns both. both.0
      ∙ sym (length-vehicles p.trips p.routes (journeys_of p) sound.each journeys-many)))
      ∙ vehicle-trips p.trips p.routes (journeys_of p) sound.each journeys-many

  pub agents-many : length agents ≡ length p.trips
  agents-many = sym (length-map agents (λ a. a.0.trip)) ∙ ap length trips-are

  pub rise : map number-in agents ≡ range_with_len 1 (length agents)
  rise =
      sym (map-map (λ (t : Trip). t.number + 1) (λ (a : Agent). a.0.trip) agents)
      ∙ ap (map (λ (t : Trip). t.number + 1)) trips-are
      ∙ sym (map-map (λ k. k + 1) (λ (t : Trip). t.number) p.trips)
      ∙ ap (map (λ k. k + 1)) sound.trips.numbered
      ∙ one-more 0 (length p.trips)
      ∙ ap (range_with_len 1) (sym agents-many)

  -- the number of a trip is its place
  pub number-is : (i : ℕ) (trip : Trip) → slice_get p.trips i ≡ Some trip → trip.number ≡ i
  number-is i trip e =
      got_number (length p.trips) i trip.number
      (ap (λ L. slice_get L i) (sym sound.trips.numbered)
      ∙ slice_get-map (λ (t : Trip). t.number) p.trips i
      ∙ ap (option_map (λ (t : Trip). t.number)) e)

  pub on-net : (i : ℕ) (route : Option (List LinkNo)) → slice_get p.routes i ≡ Some route
      → IfSome route (AreLinksOf p.net)
  on-net i route e =
      all_at (λ route. IfSome route (AreLinksOf p.net)) p.routes i route
      (walks-on-net p sound.walks sound.each) e

  short : (n : ℕ) → n < p.horizon → n < 2 ^ 64
  short n h = let most = sound.horizon_most in omega (arith, h, most)

  -- what is true of steps below the horizon is true of those that are told
  module _ (P : ℕ → Type 0) (below : (n : ℕ) → n < p.horizon → P n) where
    pub arrival-below : (route : Option (List LinkNo)) (j : Journey)
        → All (λ s. s < p.horizon) (steps_in j) → IfSome (arrival-at route j) P
    arrival-below None j h = tt
    arrival-below (Some route) j h =
        IfSome_then j.arrival
        (All-pop (λ s. s < p.horizon) (steps_in j) j.entries j.arrival refl h).1 below

    pub entries-below : (route : Option (List LinkNo)) (j : Journey)
        → All (λ s. s < p.horizon) (steps_in j) → All P (entries-at route j)
    entries-below None j h = All-nil P
    entries-below (Some route) j h =
        All-weaker (λ s. s < p.horizon) P below j.entries
        (All-pop (λ s. s < p.horizon) (steps_in j) j.entries j.arrival refl h).0

  links-small : (route : Option (List LinkNo)) → IfSome route (AreLinksOf p.net)
      → All (λ n. n ≤ GREATEST_IDENTIFIER) (ids-at p.net route)
  links-small None h = All-nil (λ n. n ≤ GREATEST_IDENTIFIER)
  links-small (Some route) h = ids-small p.net route ids.links h

  pub at : (i : ℕ) (a : Agent) → slice_get agents i ≡ Some a → IsToldAt all-vehicles since i a
  at i a e = agent-at all-vehicles since i a (IfSome_then since told (λ ns both. both.1)) e

  pub fits-at : (i : ℕ) (a : Agent) → slice_get agents i ≡ Some a
      → AgentFits p.net (is_some since) a
  fits-at i a e =
      let own = at i a e in
      let v = vehicle-at p.trips p.routes (journeys_of p) i a.0 own.vehicle in
      let number = number-is i a.0.trip v.trip in
      let inside = slice_get_within p.trips i a.0.trip v.trip in
      let few = sound.trips.few in
      let early = journey-early p i a.0.journey v.journey in
      record {
        few = omega (arith, number, inside, few);
        origin = all_at (λ t. t.origin ≤ GREATEST_IDENTIFIER) p.trips i a.0.trip ids.origins v.trip;
        destination = all_at (λ t. t.destination ≤ GREATEST_IDENTIFIER) p.trips i a.0.trip
            ids.destinations v.trip;
        departure = short a.0.trip.departure
            (all_at (λ t. t.departure < p.horizon) p.trips i a.0.trip sound.early v.trip);
        arrival = arrival-below (λ n. n < 2 ^ 64) short a.0.route a.0.journey early;
        ids = links-small a.0.route (on-net i a.0.route v.route);
        entries = entries-below (λ n. n < 2 ^ 64) short a.0.route a.0.journey early;
        iteration = own.small;
        as_told = own.told;
      }

  all-fit : All (AgentFits p.net (is_some since)) agents
  all-fit i d h = fits-at i (get_or agents i d) (slice_get-get_or agents i d h)

  abbrev rows : List StartRow
  rows = map (row-told p.net (is_some since)) agents

  accepted : start_verdict (records (agent_text_by p.net p.trips p.routes (journeys_of p) since))
      ≡ Ok rows
  accepted =
      ap (λ t. start_verdict (records t)) (text-is p.net p.trips p.routes (journeys_of p) since)
      ∙ agents-accepted p.net (is_some since) agents all-fit rise

  numbers-are : agents_of rows ≡ numbers_below (length p.trips)
  numbers-are =
      map-map (λ (row : StartRow). row.agent) (row-told p.net (is_some since)) agents
      ∙ sym (map-map (λ (t : Trip). t.number) (λ (a : Agent). a.0.trip) agents)
      ∙ ap (map (λ (t : Trip). t.number)) trips-are ∙ sound.trips.numbered

  rows-many : length rows ≡ length p.trips
  rows-many = length-map agents (row-told p.net (is_some since)) ∙ agents-many

  rows-sound : AreStartRows rows
  rows-sound = record {
    distinct = subst (IsDistinct nat_eq) (sym numbers-are) (range-distinct (length p.trips));
    few = let many = rows-many in let few = sound.trips.few in omega (arith, many, few);
  }

  -- the row of a vehicle
  row-tells : (v : ℕ) (trip : Trip) (route : Option (List LinkNo)) → slice_get p.trips v ≡ Some trip
      → slice_get p.routes v ≡ Some route → (links : List ℕ) → links ≡ ids-at p.net route
      → IsRowOf p.net trip route (record {
        agent = trip.number;
        origin = trip.origin;
        destination = trip.destination;
        links = links;
      })
  row-tells v trip None et er links is = (refl, is)
  row-tells v trip (Some route) et er links is = record {
    agent = refl;
    origin = refl;
    destination = refl;
    names = subst (λ L. AreNamed p.net L route) (sym is)
        (names-own p.net route sound.net.links.distinct (on-net v (Some route) er));
    walks = sound.walks v trip route et er;
  }

  each : (v : ℕ) (trip : Trip) (route : Option (List LinkNo)) → slice_get p.trips v ≡ Some trip
      → slice_get p.routes v ≡ Some route
      → (row : StartRow) × (slice_get rows v ≡ Some row) × IsRowOf p.net trip route row
  each v trip route et er =
      let many = agents-many in
      let inside = slice_get_within p.trips v trip et in
      let d : Agent = (
        record {
          trip = trip;
          route = route;
          journey = record { entries = []; arrival = None };
        },
        None,
      ) in
      let a : Agent = get_or agents v d in
      let there : slice_get agents v ≡ Some a =
      slice_get-get_or agents v d (omega (arith, many, inside)) in
      let own = at v a there in
      let w = vehicle-at p.trips p.routes (journeys_of p) v a.0 own.vehicle in
      let same_trip : a.0.trip ≡ trip = same_Some a.0.trip trip (sym w.trip ∙ et) in
      let same_route : a.0.route ≡ route = same_Some a.0.route route (sym w.route ∙ er) in (
        row-told p.net (is_some since) a,
        slice_get-map (row-told p.net (is_some since)) agents v
            ∙ ap (option_map (row-told p.net (is_some since))) there,
        subst (λ (t : Trip). IsRowOf p.net trip route (record {
          agent = t.number;
          origin = t.origin;
          destination = t.destination;
          links = ids-at p.net a.0.route;
        })) (sym same_trip)
            (row-tells v trip route et er (ids-at p.net a.0.route) (ap (ids-at p.net) same_route)),
      )

  -- the row that the table has for a vehicle's number
  row-there : (v : ℕ) (trip : Trip) (row : StartRow) → slice_get p.trips v ≡ Some trip
      → slice_get rows v ≡ Some row → row_of rows trip.number ≡ Some row
  row-there v trip row et er =
      let inside = slice_get_within p.trips v trip et in
      let number : 0 + v ≡ trip.number = let k = number-is v trip et in omega (arith, k) in
      let place : place_of (agents_of rows) trip.number ≡ Some v =
      ap (λ L. place_of L trip.number) numbers-are
      ∙ subst (λ n. place_of (numbers_below (length p.trips)) n ≡ Some v) number
      (place-there 0 (length p.trips) v inside) in
      rw place er

  starts : (v : ℕ) (trip : Trip) (route : Option (List LinkNo)) → slice_get p.trips v ≡ Some trip
      → slice_get p.routes v ≡ Some route → TellsStart p.net rows trip route
  starts v trip route et er =
      let own = each v trip route et er in
      row_tells p.net rows trip own.0 route rows-sound (row-there v trip own.0 et own.1)
      (fit-of p.net trip route own.0 own.2)

  -- a vehicle starts on one walk at most
  one-walk : (trip : Trip) (a b : List LinkNo) → IsStarted p.net rows trip a
      → IsStarted p.net rows trip b → a ≡ b
  one-walk trip a b (r, row, here, fits) (s, other, there, suits) =
      let same : row ≡ other =
      one_row rows r s row other rows-sound.distinct here there
      (fits.agent ∙ sym suits.agent) in
      named_once p.net other.links a b
      (subst (λ (w : StartRow). AreNamed p.net w.links a) same fits.names) suits.names

  first-route : (trip : Trip) (route : List LinkNo) (r : Option (List LinkNo))
      → IsStarted p.net rows trip route → StartsOn (Links (free_time p.net)) p.net rows trip r
      → r ≡ Some route
  first-route trip route r start (inl (walk, is, started)) =
      is ∙ ap Some (one-walk trip walk route started start)
  first-route trip route r start (inr (none, chosen)) = absurd (none route start)

  again : (routes : List (Option (List LinkNo))) → AreStartedRoutes p.net rows p.trips routes
      → (v : ℕ) (route : List LinkNo) → slice_get p.routes v ≡ Some (Some route)
      → slice_get routes v ≡ Some (Some route)
  again routes first v route er =
      let many = sound.each in
      let as_many = first.as_many in
      let inside = slice_get_within p.routes v (Some route) er in
      let trip : Trip = get_or p.trips v no-trip in
      let et : slice_get p.trips v ≡ Some trip =
      slice_get-get_or p.trips v no-trip (omega (arith, inside, many)) in
      let r : Option (List LinkNo) = get_or routes v None in
      let there : slice_get routes v ≡ Some r =
      slice_get-get_or routes v None (omega (arith, inside, many, as_many)) in
      there
      ∙ ap Some (first-route trip route r (starts v trip (Some route) et er)
      (first.each v trip r et there))

pub routes_are_read_back : RoutesAreReadBack
routes_are_read_back p since sound ids told = record {
  rows = rows p since sound ids told;
  accepted = accepted p since sound ids told;
  sound = rows-sound p since sound ids told;
  many = rows-many p since sound ids told;
  each = each p since sound ids told;
  starts = starts p since sound ids told;
  again = again p since sound ids told;
}
