-- Loadings that pass the test of soundness are sound.
use Rattle.std.specs.List.{list_all, range_with_len}
use Rattle.std.specs.List.Sorted.{IsNonDecreasingBy}
use Rattle.std.specs.Prelude.{IfSome, IsSome, is_some, nat_eq, nat_le, nat_lt, slice_get, ◌≢◌}
use Rattle.std.proofs.Common.{◌≡◌, ℕ, zero, suc, ◌<◌, ◌≤◌, Bool, true, false, ◌&&◌, not, List, [], ◌∷◌, length, map, refl, ◌+◌, ◌∙◌, ap, subst, arith, Option, Some, None}
use Rattle.std.proofs.lemmas.Bool.{and_parts, eq-eqb, not-true}
use Rattle.std.proofs.lemmas.Bool.Decides.{nat_tests}
use Rattle.std.proofs.lemmas.Option.{same_Some}
use Rattle.fixed_units.specs.declared.link.TheConstants.{MOST_STEP}
use Rattle.net_core.proofs.Orders.{le_holds, lt_holds}
use Rattle.net_core.specs.Network.{turn}
use Rattle.net_core.specs.declared.rows.LinkNo.{LinkNo}
use Rattle.net_core.specs.declared.rows.NetRows.{NetRows}
use Rattle.dta_model.specs.Plans.{link_numbers}
use Rattle.dta_model.specs.Sound.{IsQueue, IsSound}
use Rattle.dta_model.specs.Walks.{IsWalk, begins_in, ends_in}
use Rattle.dta_model.specs.declared.loading.TheConstants.{MOST_HORIZON}
use Rattle.dta_model.specs.declared.plan.Plan.{Plan}
use Rattle.dta_model.specs.declared.queue.Queue.{Queue}
use Rattle.dta_model.specs.declared.queue.Queue.TheVariants as queue
use Rattle.dta_model.specs.declared.queue.TheConstants.{MOST_WAVE}
use Rattle.dta_model.specs.declared.trip.Trip.{Trip}
use Rattle.dta_model.specs.declared.trip.TheConstants.{MOST_TRIPS}
use Rattle.dta_model.proofs.Rising.{rising-cons}
use Rattle.worked_cases.proofs.NetChecked.{all-checked, net-checked}
use Rattle.worked_cases.specs.CheckedNet.{is_net}
use Rattle.worked_cases.specs.Checked.{apart, are_numbered, are_walks, begins_there, ends_once, is_queue, is_sound, is_walk, rises, turns_on}

turns-checked : (net : NetRows) (walk : List ℕ) → turns_on net walk ≡ true → (i a b : ℕ) → slice_get walk i ≡ Some a → slice_get walk (suc i) ≡ Some b → IsSome (turn net a b)
turns-checked net [] h i a b e f = cc
turns-checked net (x ∷ []) h zero a b e f = cc
turns-checked net (x ∷ []) h (suc i) a b e f = cc
turns-checked net (x ∷ (y ∷ walk)) h zero a b e f =
    subst (λ u. IsSome (turn net u b)) (same_Some x a e) (subst (λ u. IsSome (turn net x u)) (same_Some y b f) (and_parts (is_some (turn net x y)) (turns_on net (y ∷ walk)) h).0)
turns-checked net (x ∷ (y ∷ walk)) h (suc i) a b e f = turns-checked net (y ∷ walk) (and_parts (is_some (turn net x y)) (turns_on net (y ∷ walk)) h).1 i a b e f

ends-checked : (net : NetRows) (destination : ℕ) (walk : List ℕ) → ends_once net destination walk ≡ true → (i l : ℕ) → slice_get walk i ≡ Some l → ends_in net destination l ≡ nat_eq (suc i) (length walk)
ends-checked net destination [] h i l e = cc
ends-checked net destination (x ∷ []) h zero l e = subst (λ u. ends_in net destination u ≡ true) (same_Some x l e) h
ends-checked net destination (x ∷ []) h (suc i) l e = cc
ends-checked net destination (x ∷ (y ∷ walk)) h zero l e =
    subst (λ u. ends_in net destination u ≡ false) (same_Some x l e) (not-true (ends_in net destination x) (and_parts (not (ends_in net destination x)) (ends_once net destination (y ∷ walk)) h).0)
    ∙ not-last (length walk)
  where
    not-last : (n : ℕ) → false ≡ nat_eq 1 (suc (suc n))
    not-last n = grind (arith, nat_tests)
ends-checked net destination (x ∷ (y ∷ walk)) h (suc i) l e =
    ends-checked net destination (y ∷ walk) (and_parts (not (ends_in net destination x)) (ends_once net destination (y ∷ walk)) h).1 i l e
    ∙ one-more (suc i) (length (y ∷ walk))
  where
    one-more : (a b : ℕ) → nat_eq a b ≡ nat_eq (suc a) (suc b)
    one-more a b = grind (arith, nat_tests)

begins-checked : (net : NetRows) (origin : ℕ) (walk : List ℕ) → begins_there net origin walk ≡ true → (1 ≤ length walk) × IfSome (slice_get walk 0) (λ l. begins_in net origin l ≡ true)
begins-checked net origin [] h = cc
begins-checked net origin (l ∷ walk) h = (omega arith, h)

walk-checked : (net : NetRows) (origin destination : ℕ) (walk : List ℕ) → is_walk net origin destination walk ≡ true → IsWalk net origin destination walk
walk-checked net origin destination walk h =
    let links = and_parts (list_all (λ l. nat_lt l (length net.links)) walk) _ h in
    let begins = and_parts (begins_there net origin walk) _ links.1 in
    let turns = and_parts (turns_on net walk) _ begins.1 in
    let first = begins-checked net origin walk begins.0 in
    record {
      some = first.0;
      links = all-checked (λ l. l < length net.links) (λ l. nat_lt l (length net.links)) (λ l e. lt_holds l (length net.links) e) walk links.0;
      begins = first.1;
      turns = turns-checked net walk turns.0;
      ends = ends-checked net destination walk turns.1;
    }

walks-checked : (net : NetRows) (trips : List Trip) (routes : List (Option (List LinkNo)))
    → are_walks net trips routes ≡ true → (v : ℕ) (trip : Trip) (route : List LinkNo)
    → slice_get trips v ≡ Some trip → slice_get routes v ≡ Some (Some route)
    → IsWalk net trip.origin trip.destination (link_numbers route)
walks-checked net [] routes h v trip route e f = cc
walks-checked net (x ∷ trips) [] h v trip route e f = cc
walks-checked net (x ∷ trips) (None ∷ routes) h zero trip route e f =
    let no_way : None ≡ Some route = same_Some None (Some route) f in cc no_way
walks-checked net (x ∷ trips) (None ∷ routes) h (suc v) trip route e f =
    walks-checked net trips routes h v trip route e f
walks-checked net (x ∷ trips) (Some way ∷ routes) h zero trip route e f =
    subst (λ t. IsWalk net t.origin t.destination (link_numbers route)) (same_Some x trip e)
    (subst (λ r. IsWalk net x.origin x.destination (link_numbers r))
    (same_Some way route (same_Some (Some way) (Some route) f))
    (walk-checked net x.origin x.destination (link_numbers way)
    (and_parts (is_walk net x.origin x.destination (link_numbers way))
    (are_walks net trips routes) h).0))
walks-checked net (x ∷ trips) (Some way ∷ routes) h (suc v) trip route e f =
    walks-checked net trips routes
    (and_parts (is_walk net x.origin x.destination (link_numbers way))
    (are_walks net trips routes) h).1 v trip route e f

each-checked : (net : NetRows) (trips : List Trip) (routes : List (Option (List LinkNo)))
    → are_walks net trips routes ≡ true → length routes ≡ length trips
each-checked net [] [] h = refl
each-checked net [] (route ∷ routes) h = cc
each-checked net (x ∷ trips) [] h = cc
each-checked net (x ∷ trips) (None ∷ routes) h = ap suc (each-checked net trips routes h)
each-checked net (x ∷ trips) (Some way ∷ routes) h =
    ap suc (each-checked net trips routes
    (and_parts (is_walk net x.origin x.destination (link_numbers way))
    (are_walks net trips routes) h).1)

-- trips
rises-checked : (trips : List Trip) → rises trips ≡ true → IsNonDecreasingBy (λ trip. trip.departure) trips
rises-checked [] h = λ i j d l k. absurd (omega (arith, k))
rises-checked (x ∷ trips) h =
    let parts = and_parts (list_all (λ y. nat_le x.departure y.departure) trips) (rises trips) h in
    rising-cons (λ trip. trip.departure) x trips (all-checked (λ y. x.departure ≤ y.departure) (λ y. nat_le x.departure y.departure) (λ y e. le_holds x.departure y.departure e) trips parts.0) (rises-checked trips parts.1)

apart-checked : (trip : Trip) → apart trip ≡ true → trip.origin ≢ trip.destination
apart-checked trip h e = clash (nat_eq trip.origin trip.destination) (eq-eqb trip.origin trip.destination e) h
  where
    clash : (b : Bool) → b ≡ true → not b ≡ true → ⊥
    clash true e h = cc
    clash false e h = cc

numbered-checked : (first : ℕ) (trips : List Trip) → are_numbered first trips ≡ true
    → map (λ trip. trip.number) trips ≡ range_with_len first (length trips)
numbered-checked first [] h = refl
numbered-checked first (x ∷ trips) h =
    let parts = and_parts (nat_eq x.number first) (are_numbered (first + 1) trips) h in
    ap (λ n. n ∷ map (λ trip. trip.number) trips) (same-number x.number first parts.0)
    ∙ ap (λ ns. first ∷ ns) (numbered-checked (first + 1) trips parts.1)
  where
    same-number : (a b : ℕ) → nat_eq a b ≡ true → a ≡ b
    same-number a b e = grind (arith, nat_tests)

queue-checked : (q : Queue) → is_queue q ≡ true → IsQueue q
queue-checked queue.Point h = tt
queue-checked queue.Spatial h = tt
queue-checked (queue.Newell wave) h =
    let parts = and_parts (nat_le 1 wave) (nat_le wave MOST_WAVE) h in
    (le_holds 1 wave parts.0, le_holds wave MOST_WAVE parts.1)

-- a plan that passes the test is sound
pub sound-checked : (p : Plan) → is_sound p ≡ true → IsSound p
sound-checked p h =
    let net = and_parts (is_net p.net) _ h in
    let a = and_parts (nat_le 1 p.delta && nat_le p.delta MOST_STEP) _ net.1 in
    let delta = and_parts (nat_le 1 p.delta) _ a.0 in
    let b = and_parts (nat_le 1 p.horizon && nat_le p.horizon MOST_HORIZON) _ a.1 in
    let horizon = and_parts (nat_le 1 p.horizon) _ b.0 in
    let q = and_parts (is_queue p.queue) _ b.1 in
    let c = and_parts
    (nat_le (length p.trips) MOST_TRIPS && (are_numbered 0 p.trips && list_all apart p.trips))
    _ q.1 in
    let trips = and_parts (nat_le (length p.trips) MOST_TRIPS) _ c.0 in
    let each = and_parts (are_numbered 0 p.trips) _ trips.1 in
    let d = and_parts
    (rises p.trips && list_all (λ trip. nat_lt trip.departure p.horizon) p.trips) _ c.1 in
    let steps = and_parts (rises p.trips) _ d.0 in
    record {
      net = net-checked p.net net.0;
      delta_least = le_holds 1 p.delta delta.0;
      delta_most = le_holds p.delta MOST_STEP delta.1;
      horizon_least = le_holds 1 p.horizon horizon.0;
      horizon_most = le_holds p.horizon MOST_HORIZON horizon.1;
      queue = queue-checked p.queue q.0;
      trips = record {
        few = le_holds (length p.trips) MOST_TRIPS trips.0;
        numbered = numbered-checked 0 p.trips each.0;
        apart =
            all-checked (λ trip. trip.origin ≢ trip.destination) apart apart-checked p.trips each.1;
      };
      rising = rises-checked p.trips steps.0;
      early =
          all-checked (λ trip. trip.departure < p.horizon)
          (λ trip. nat_lt trip.departure p.horizon)
          (λ trip e. lt_holds trip.departure p.horizon e) p.trips steps.1;
      each = each-checked p.net p.trips p.routes d.1;
      walks = walks-checked p.net p.trips p.routes d.1;
    }
