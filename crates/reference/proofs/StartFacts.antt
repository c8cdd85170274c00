-- The routes of a start table, the first routes, the next ones, and since when each is there.
use Rattle.trip_costs.specs.LoadingCosts.{kind_of}
use Rattle.trip_costs.specs.Timings.{Links, Timing}
use Rattle.trip_costs.specs.TripWalks.{IsChosenBy}
use Rattle.trip_costs.specs.declared.loading_costs.Costs.{Costs}
use Rattle.std.proofs.Common.{◌≡◌, ◌⊎◌, inl, inr, ℕ, zero, suc, ◌+◌, ◌<◌, ◌≤◌, Bool, true, false, cond, List, [], ◌∷◌, length, map, refl, ap, sym, ◌∙◌, subst, arith, Option, None, Some}
use Rattle.std.specs.Prelude.{if◌then◌else◌, nat_eq, nat_lt, option_map, slice_get, ◌&&◌}
use Rattle.std.specs.List.{enumerate_from, zip}
use Rattle.std.proofs.lemmas.Bool.{cases_lt, eq-eqb}
use Rattle.std.proofs.lemmas.Bool.Decides.{nat_tests}
use Rattle.std.proofs.lemmas.List.{length-map}
use Rattle.std.proofs.lemmas.List.FromFn.{length-enumerate_from}
use Rattle.std.proofs.lemmas.Option.{slice_get-map, slice_get_within}
use Rattle.std.proofs.lemmas.Slice.Zip.{length-zip}
use Rattle.net_core.proofs.Orders.{lt_fails, lt_holds}
use Rattle.net_core.specs.Network.{IsNet, as_links}
use Rattle.net_core.specs.Rows.{link_named}
use Rattle.net_core.specs.declared.rows.LinkNo.{LinkNo}
use Rattle.net_core.specs.declared.rows.NetRows.{NetRows}
use Rattle.dta_model.specs.Plans.{link_numbers}
use Rattle.dta_model.specs.declared.loading.TheConstants.{MOST_HORIZON}
use Rattle.dta_model.specs.declared.trip.Trip.{Trip}
use Rattle.route_flows.specs.Averages.{AreNextRoutes, AreSince, AreStartedRoutes, IsSince, StartsOn}
use Rattle.route_flows.specs.Selection.{free_time, renews, or_other}
use Rattle.route_flows.specs.Starting.{IsNumbered, TellsRenewal}
use Rattle.start_table.specs.Starts.{AreNamed, AreStartRows, TellsFit, TellsStart, TellsWalk, row_of}
use Rattle.start_table.specs.declared.rows.StartRow.{StartRow}
use Rattle.start_table.proofs.Named.{no_row_tells, row_found, row_tells}
use Rattle.route_flows.proofs.Numbered.{numbered_since}
use Rattle.time_routes.specs.Destinations.{WalkOf}
use Rattle.reference.specs.Routes.{all_since, chosen_route, first_and, first_route, first_routes, if_walk, is_walk, last_renewal, links_named, next_route, next_routes, number_of, since, started_route, walk_in, walk_named}
use Rattle.reference.specs.Search.{search}
use Rattle.reference.specs.Searched.{AreCosts, Finds}
use Rattle.reference.proofs.IsWalks.{tests-walks, walks-tested}
use Rattle.reference.proofs.Searched.{walks_are_found}

-- ---- the chosen walk
pub numbers-back : (walk : List ℕ) → link_numbers (as_links walk) ≡ walk
numbers-back [] = refl
numbers-back (l ∷ walk) = ap (λ rest. l ∷ rest) (numbers-back walk)

-- what is told of it, by numbers of links or by links
chosen-links : (costs : Timing) (net : NetRows) (trip : Trip) (o : Option (List ℕ)) → Finds costs net trip.origin trip.destination trip.departure o → WalkOf costs net trip (option_map as_links o)
chosen-links costs net trip None none = none
chosen-links costs net trip (Some walk) is = subst (λ w. IsChosenBy costs net trip.origin trip.destination trip.departure w) (sym (numbers-back walk)) is

module _ (costs : Timing) (net : NetRows) (sound : IsNet net) (within : AreCosts costs net) where
  pub chosen : (trip : Trip) → WalkOf costs net trip (chosen_route costs net trip)
  unfolding chosen_route
  chosen trip =
      chosen-links costs net trip (search costs net trip.origin trip.destination trip.departure)
      (walks_are_found MOST_HORIZON costs net sound within trip.origin trip.destination trip.departure)

-- ---- identifiers of links
links-are-named : (net : NetRows) (ids : List ℕ) (links : List LinkNo) → links_named net ids ≡ Some links → AreNamed net ids links
unfolding links_named
links-are-named net [] links e = let none : [] ≡ links = cc in ap (map Some) none
links-are-named net (id ∷ ids) links e = by (λ others f. links-are-named net ids others f) (link_named net.links id) refl (links_named net ids) refl e
  where
    by : ((others : List LinkNo) → links_named net ids ≡ Some others → AreNamed net ids others) → (o : Option LinkNo) → link_named net.links id ≡ o → (p : Option (List LinkNo)) → links_named net ids ≡ p → first_and o p ≡ Some links
        → map (link_named net.links) (id ∷ ids) ≡ map Some links
    by more None e p f h = cc
    by more (Some l) e None f h = cc
    by more (Some l) e (Some others) f h =
        let all : l ∷ others ≡ links = cc in
        let rest = more others f in
        ap (λ x. x ∷ map (link_named net.links) ids) e ∙ ap (λ x. Some l ∷ x) rest ∙ ap (map Some) all

named-are-links : (net : NetRows) (ids : List ℕ) (links : List LinkNo) → AreNamed net ids links → links_named net ids ≡ Some links
unfolding links_named
named-are-links net [] [] h = refl
named-are-links net [] (l ∷ links) h = cc
named-are-links net (id ∷ ids) [] h = cc
named-are-links net (id ∷ ids) (l ∷ links) h =
    let head : link_named net.links id ≡ Some l = cc in
    let tail : map (link_named net.links) ids ≡ map Some links = cc in
    let rest = named-are-links net ids links tail in
    ap (λ o. first_and o (links_named net ids)) head ∙ ap (λ p. first_and (Some l) p) rest

pub tells-walk : (net : NetRows) (origin destination : ℕ) (ids : List ℕ) → TellsWalk net origin destination ids (walk_named net origin destination ids)
unfolding walk_named
tells-walk net origin destination ids = by (links_named net ids) refl
  where
    tested : (links : List LinkNo) → links_named net ids ≡ Some links → (b : Bool) → is_walk net origin destination (link_numbers links) ≡ b
        → TellsWalk net origin destination ids (if b then Some links else None)
    tested links e true t = record {
      names = links-are-named net ids links e;
      walks = walks-tested net destination origin (link_numbers links) t;
    }
    tested links e false f = λ walk named. (
        let same : Some links ≡ Some walk = sym e ∙ named-are-links net ids walk named.names in
        let links_are : walk ≡ links = cc in
        let yes = subst (λ w. is_walk net origin destination (link_numbers w) ≡ true) links_are
        (tests-walks net destination origin (link_numbers walk) named.walks) in
        let both : true ≡ false = sym yes ∙ f in
        cc)

    by : (o : Option (List LinkNo)) → links_named net ids ≡ o → TellsWalk net origin destination ids (if_walk net origin destination o)
    by None e = λ walk named. (let some : None ≡ Some walk = sym e ∙ named-are-links net ids walk named.names in cc)
    by (Some links) e = tested links e (is_walk net origin destination (link_numbers links)) refl

-- ---- rows of a start table
same-number : (a b : ℕ) → nat_eq a b ≡ true → a ≡ b
same-number a b e = grind (arith, nat_tests)

other-number : (a b : ℕ) → nat_eq a b ≡ false → a ≡ b → ⊥
other-number a b f same = let yes : nat_eq a b ≡ true = eq-eqb a b same in let both : true ≡ false = sym yes ∙ f in cc

row-tells : (net : NetRows) (trip : Trip) (row : StartRow) → row.agent ≡ trip.number → TellsFit net trip row (walk_in net trip (Some row))
row-tells net trip row agent = by (nat_eq row.origin trip.origin) refl (nat_eq row.destination trip.destination) refl
  where
    there : row.origin ≡ trip.origin → row.destination ≡ trip.destination → (o : Option (List LinkNo)) → TellsWalk net trip.origin trip.destination row.links o → TellsFit net trip row o
    there a b None none = λ walk fits. none walk (record { names = fits.names; walks = fits.walks })
    there a b (Some walk) is = record { agent = agent; origin = a; destination = b; names = is.names; walks = is.walks }

    by : (a : Bool) → nat_eq row.origin trip.origin ≡ a → (b : Bool) → nat_eq row.destination trip.destination ≡ b
        → TellsFit net trip row (if a && b then walk_named net trip.origin trip.destination row.links else None)
    by true ea true eb =
        there (same-number row.origin trip.origin ea) (same-number row.destination trip.destination eb)
        (walk_named net trip.origin trip.destination row.links) (tells-walk net trip.origin trip.destination row.links)
    by true ea false eb = λ walk fits. other-number row.destination trip.destination eb fits.destination
    by false ea b eb = λ walk fits. other-number row.origin trip.origin ea fits.origin

pub started-tells : (net : NetRows) (start : List StartRow) (trip : Trip) → AreStartRows start → TellsStart net start trip (started_route net start trip)
unfolding started_route
started-tells net start trip sound = by (row_of start trip.number) refl
  where
    by : (o : Option StartRow) → row_of start trip.number ≡ o → TellsStart net start trip (walk_in net trip o)
    by None e = no_row_tells net start trip e
    by (Some row) e =
        let found = row_found start trip.number row e in
        row_tells net start trip row (walk_in net trip (Some row)) sound e (row-tells net trip row (found.2))

-- ---- lists with numbers
pub enumerated : {A B : Type 0} (f : ℕ × A → B) (n : ℕ) (xs : List A) (i : ℕ) (x : A) → slice_get xs i ≡ Some x → slice_get (map f (enumerate_from n xs)) i ≡ Some (f (n + i, x))
enumerated f n [] i x e = cc
enumerated f n (y ∷ xs) zero x e =
    let same : y ≡ x = cc in
    let here : n ≡ n + 0 = omega arith in
    ap (λ z. Some (f (n, z))) same ∙ ap (λ m. Some (f (m, x))) here
enumerated f n (y ∷ xs) (suc i) x e =
    let more : n + 1 + i ≡ n + suc i = omega arith in
    enumerated f (n + 1) xs i x e ∙ ap (λ m. Some (f (m, x))) more

pub zipped : {A B : Type 0} (xs : List A) (ys : List B) (i : ℕ) (x : A) (y : B) → slice_get xs i ≡ Some x → slice_get ys i ≡ Some y → slice_get (zip xs ys) i ≡ Some (x, y)
zipped [] ys i x y e f = cc
zipped (a ∷ xs) [] i x y e f = cc
zipped (a ∷ xs) (b ∷ ys) zero x y e f =
    let first : a ≡ x = cc in
    let second : b ≡ y = cc in
    ap (λ z. Some (z, b)) first ∙ ap (λ z. Some (x, z)) second
zipped (a ∷ xs) (b ∷ ys) (suc i) x y e f = zipped xs ys i x y e f

pub mapped : {A B : Type 0} (f : A → B) (xs : List A) (i : ℕ) (x : A) (y : B) → slice_get xs i ≡ Some x → slice_get (map f xs) i ≡ Some y → f x ≡ y
mapped f xs i x y e g =
    let both : Some (f x) ≡ Some y = sym (slice_get-map f xs i ∙ ap (option_map f) e) ∙ g in
    cc

same-some : {A : Type 0} (x y : A) → Some x ≡ Some y → x ≡ y
same-some x y e = cc

-- ---- the first routes
module _ (net : NetRows) (start : List StartRow) (sound : IsNet net) (rows : AreStartRows start) (within : AreCosts (Links (free_time net)) net) where
  starts-on : (trip : Trip) → StartsOn (Links (free_time net)) net start trip (first_route net start trip)
  starts-on trip = by (started_route net start trip) (started-tells net start trip rows)
    where
      by : (o : Option (List LinkNo)) → TellsStart net start trip o → StartsOn (Links (free_time net)) net start trip (or_other o (chosen_route (Links (free_time net)) net trip))
      by (Some walk) is = inl (walk, refl, is)
      by None none = inr (none, chosen (Links (free_time net)) net sound within trip)

  pub first-are : (trips : List Trip) → AreStartedRoutes net start trips (first_routes net start trips)
  unfolding first_routes
  first-are trips = record {
    as_many = length-map trips (first_route net start);
    each = λ v trip route t r.
        subst (λ x. StartsOn (Links (free_time net)) net start trip x) (mapped (first_route net start) trips v trip route t r) (starts-on trip);
  }

-- ---- the next routes
get-past : {A : Type 0} (xs : List A) (v : ℕ) → length xs ≤ v → slice_get xs v ≡ None
get-past [] v h = refl
get-past (x ∷ xs) zero h = absurd (omega (arith, h))
get-past (x ∷ xs) (suc v) h = get-past xs v (omega (arith, h))

get-there : {A : Type 0} (xs : List A) (v : ℕ) → v < length xs → (x : A) × (slice_get xs v ≡ Some x)
get-there [] v h = absurd (omega (arith, h))
get-there (x ∷ xs) zero h = (x, refl)
get-there (x ∷ xs) (suc v) h = get-there xs v (omega (arith, h))

module _ (costs : Timing) (net : NetRows) (sound : IsNet net) (within : AreCosts costs net) (trips : List Trip) (k : ℕ) (old : List (Option (List LinkNo))) (each : length old ≡ length trips) where
  next-long : length (next_routes costs net trips k old) ≡ length trips
  unfolding next_routes
  next-long =
      length-map (enumerate_from 0 (zip trips old)) (next_route costs net k) ∙ length-enumerate_from 0 (zip trips old)
      ∙ (let both = length-zip trips old in omega (arith, both, each))

  next-at : (v : ℕ) (trip : Trip) (route : Option (List LinkNo)) → slice_get trips v ≡ Some trip → slice_get old v ≡ Some route
      → slice_get (next_routes costs net trips k old) v ≡ Some (cond (renews (kind_of costs) k v) (chosen_route costs net trip) route)
  unfolding next_routes
  next-at v trip route t r =
      let place : 0 + v ≡ v = omega arith in
      enumerated (next_route costs net k) 0 (zip trips old) v (trip, route) (zipped trips old v trip route t r)
      ∙ ap (λ n. Some (cond (renews (kind_of costs) k n) (chosen_route costs net trip) route)) place

  taken : (v : ℕ) (trip : Trip) (route : Option (List LinkNo)) → renews (kind_of costs) k v ≡ true → slice_get trips v ≡ Some trip
      → slice_get (next_routes costs net trips k old) v ≡ Some route → chosen_route costs net trip ≡ route
  taken v trip route s t n =
      let inside = slice_get_within trips v trip t in
      let was = get-there old v (omega (arith, inside, each)) in
      same-some (chosen_route costs net trip) route
      (sym (next-at v trip (was.0) t (was.1) ∙ ap (λ b. Some (cond b (chosen_route costs net trip) (was.0))) s) ∙ n)

  kept : (v : ℕ) → renews (kind_of costs) k v ≡ false → (o : Option (Option (List LinkNo))) → slice_get old v ≡ o → slice_get (next_routes costs net trips k old) v ≡ o
  kept v s None e =
      get-past (next_routes costs net trips k old) v (past (next_routes costs net trips k old) next-long)
    where
      past : (new : List (Option (List LinkNo))) → length new ≡ length trips → length new ≤ v
      past new long = by (get-past-back old v e)
        where
          by : length old ≤ v → length new ≤ v
          by h = omega (arith, h, long, each)

          get-past-back : (xs : List (Option (List LinkNo))) (v : ℕ) → slice_get xs v ≡ None → length xs ≤ v
          get-past-back [] v e = omega arith
          get-past-back (x ∷ xs) zero e = cc
          get-past-back (x ∷ xs) (suc v) e = let h = get-past-back xs v e in omega (arith, h)
  kept v s (Some route) e =
      let inside = slice_get_within old v route e in
      let trip = get-there trips v (omega (arith, inside, each)) in
      next-at v (trip.0) route (trip.1) e ∙ ap (λ b. Some (cond b (chosen_route costs net (trip.0)) route)) s

  pub next-are : AreNextRoutes costs net trips k old (next_routes costs net trips k old)
  next-are = record {
    as_many = next-long;
    selected = λ v trip route s t n.
        subst (λ r. WalkOf costs net trip r) (taken v trip route s t n) (chosen costs net sound within trip);
    others = λ v s. kept v s (slice_get old v) refl;
  }

-- ---- since when
same-or-less : (j k : ℕ) → j < suc k → (j ≡ k) ⊎ (j < k)
same-or-less j k h = by (cases_lt j k)
  where
    by : (j < k) ⊎ (k ≤ j) → (j ≡ k) ⊎ (j < k)
    by (inl less) = inr less
    by (inr most) = inl (omega (arith, most, h))

keeps-on : (costs : Costs) (v k : ℕ) (o : Option ℕ) → (1 ≤ k → renews costs k v ≡ false) → TellsRenewal costs v k o → TellsRenewal costs v (suc k) o
keeps-on costs v k None not_here keeps = λ j some within. by j some within (same-or-less j k within)
  where
    by : (j : ℕ) → 1 ≤ j → j < suc k → (j ≡ k) ⊎ (j < k) → renews costs j v ≡ false
    by j some within (inl same) = subst (λ n. renews costs n v ≡ false) (sym same) (not_here (omega (arith, some, same)))
    by j some within (inr less) = keeps j some less
keeps-on costs v k (Some j) not_here is = record {
  least = is.least;
  most = let m = is.most in omega (arith, m);
  selected = is.selected;
  last = λ later after before. by later after before (same-or-less later k before);
}
  where
    by : (later : ℕ) → j < later → later < suc k → (later ≡ k) ⊎ (later < k) → renews costs later v ≡ false
    by later after before (inl same) = subst (λ n. renews costs n v ≡ false) (sym same) (not_here (omega (arith, after, same)))
    by later after before (inr less) = is.last later after less

renewal-tells : (costs : Costs) (v iterations : ℕ) → TellsRenewal costs v iterations (last_renewal costs v iterations)
unfolding last_renewal
renewal-tells costs v zero = λ k some within. absurd (omega (arith, within))
renewal-tells costs v (suc k) = by (renewal-tells costs v k) (nat_lt 0 k) refl (renews costs k v) refl
  where
    by : TellsRenewal costs v k (last_renewal costs v k) → (a : Bool) → nat_lt 0 k ≡ a → (b : Bool) → renews costs k v ≡ b → TellsRenewal costs v (suc k) (cond (a && b) (Some k) (last_renewal costs v k))
    by before true ea true eb = record {
      least = lt_holds 0 k ea;
      most = omega arith;
      selected = eb;
      last = λ later after before. absurd (omega (arith, after, before));
    }
    by before true ea false eb = keeps-on costs v k (last_renewal costs v k) (λ some. eb) before
    by before false ea b eb = keeps-on costs v k (last_renewal costs v k) (λ some. absurd (let none = lt_fails 0 k ea in omega (arith, none, some))) before

numbered : (costs : Costs) (v iterations : ℕ) (walk : Option (List LinkNo)) (o : Option ℕ) → TellsRenewal costs v iterations o → IsNumbered costs v iterations walk (number_of o walk)
numbered costs v iterations walk None keeps = inr (keeps, refl)
numbered costs v iterations walk (Some k) is = inl (k, refl, is)

pub since-are : (costs : Costs) (net : NetRows) (start : List StartRow) (trips : List Trip) (iterations : ℕ) → AreStartRows start → AreSince costs net start trips iterations (all_since costs net start trips iterations)
unfolding all_since
since-are costs net start trips iterations rows = record {
  as_many = length-map (enumerate_from 0 trips) (since costs net start iterations) ∙ length-enumerate_from 0 trips;
  each = λ v trip n t e. by v trip n t e;
}
  where
    by : (v : ℕ) (trip : Trip) (n : ℕ) → slice_get trips v ≡ Some trip → slice_get (map (since costs net start iterations) (enumerate_from 0 trips)) v ≡ Some n → IsSince costs net start iterations v trip n
    by v trip n t e =
        let place : 0 + v ≡ v = omega arith in
        let is : since costs net start iterations (0 + v, trip) ≡ n = same-some (since costs net start iterations (0 + v, trip)) n (sym (enumerated (since costs net start iterations) 0 trips v trip t) ∙ e) in
        let here : since costs net start iterations (v, trip) ≡ n = ap (λ w. since costs net start iterations (w, trip)) (sym place) ∙ is in
        subst (λ m. IsSince costs net start iterations v trip m) here
        (numbered_since costs net start iterations v trip (started_route net start trip) (number_of (last_renewal costs v iterations) (started_route net start trip)) (started-tells net start trip rows)
        (numbered costs v iterations (started_route net start trip) (last_renewal costs v iterations) (renewal-tells costs v iterations)))
