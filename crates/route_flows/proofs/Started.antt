-- Vehicles with the walks of a start table, and vehicles with their chosen walks beside them.
use Rattle.std.proofs.Common.{◌≡◌, ◌≢◌, ◌⊎◌, inl, inr, ℕ, zero, suc, ◌+◌, ◌<◌, ◌≤◌, true, cond, List, [], ◌∷◌, ◌++◌, length, refl, ap, sym, ◌∙◌, subst, arith, Option, Some, None, get_or, set}
use Rattle.std.specs.Prelude.{is_none, slice_get}
use Rattle.std.proofs.lemmas.Bool.{cases_lt}
use Rattle.std.proofs.lemmas.List.{get_or-set_other, get_or-set_same, length-append, length-set}
use Rattle.std.proofs.lemmas.Option.{get_or_from_slice_get, slice_get-get_or, slice_get_within}
use Rattle.net_core.specs.declared.rows.LinkNo.{LinkNo}
use Rattle.net_core.specs.declared.rows.NetRows.{NetRows}
use Rattle.dta_model.specs.Plans.{link_numbers}
use Rattle.dta_model.specs.Sound.{AreWalks}
use Rattle.dta_model.specs.Walks.{IsWalk}
use Rattle.dta_model.specs.declared.trip.Trip.{Trip}
use Rattle.time_routes.specs.Destinations.{AreTold, asks_walk, WalkOf}
use Rattle.time_routes.specs.declared.vehicles.Ask.{Ask}
use Rattle.trip_costs.specs.Timings.{Timing}
use Rattle.trip_costs.proofs.Timed.{walks_by}
use Rattle.route_flows.specs.Averages.{AreStartedBy, StartsOn}
use Rattle.route_flows.specs.Starting.{asks_for_rest, FillsIn}
use Rattle.route_flows.specs.Selection.{or_other}
use Rattle.route_flows.proofs.Averaged.{push_before, push_last}
use Rattle.start_table.specs.Starts.{TellsStart}
use Rattle.start_table.specs.declared.rows.StartRow.{StartRow}

abbrev Walks : Type 0
Walks = List (Option (List LinkNo))

-- ---- others in place of walks that aren't there
pub record Filling (others : Walks) (i : ℕ) (old new left : Walks) : Type 0 where
  pub as_many : length new ≡ length old
  pub left_many : length left ≡ length others
  pub done : (v : ℕ) → v < i → get_or new v None ≡ or_other (get_or old v None) (get_or others v None)
  pub rest : (v : ℕ) → i ≤ v → get_or new v None ≡ get_or old v None
  pub untouched : (v : ℕ) → i ≤ v → get_or left v None ≡ get_or others v None

pub filling_none : (others old : Walks) → Filling others 0 old old others
filling_none others old = record {
  as_many = refl;
  left_many = refl;
  done = λ v h. absurd (omega (arith, h));
  rest = λ v h. refl;
  untouched = λ v h. refl;
}

pub filling_more : (others : Walks) (i : ℕ) (old mid left new rest : Walks) → i < length old → length others ≡ length old
    → new ≡ cond (is_none (get_or mid i None)) (set mid i (get_or left i None)) mid
    → rest ≡ cond (is_none (get_or mid i None)) (set left i None) left
    → Filling others i old mid left → Filling others (i + 1) old new rest
filling_more others i old mid left new rest inside long is leaves before = by (get_or mid i None) refl is leaves
  where
    kept : (walk : List LinkNo) → get_or mid i None ≡ Some walk → Filling others (i + 1) old mid left
    kept walk e = record {
      as_many = before.as_many;
      left_many = before.left_many;
      done = λ v h. at v h (cases_lt v i);
      rest = λ v h. before.rest v (omega (arith, h));
      untouched = λ v h. before.untouched v (omega (arith, h));
    }
      where
        at : (v : ℕ) → v < i + 1 → (v < i) ⊎ (i ≤ v) → get_or mid v None ≡ or_other (get_or old v None) (get_or others v None)
        at v h (inl b) = before.done v b
        at v h (inr b) =
            let same : v ≡ i = omega (arith, h, b) in
            let was : get_or old i None ≡ Some walk = sym (before.rest i (omega arith)) ∙ e in
            subst (λ w. get_or mid w None ≡ or_other (get_or old w None) (get_or others w None)) (sym same)
            (e ∙ sym (ap (λ o. or_other o (get_or others i None)) was))

    taken : get_or mid i None ≡ None → Filling others (i + 1) old (set mid i (get_or left i None)) (set left i None)
    taken e = record {
      as_many = length-set mid i (get_or left i None) ∙ before.as_many;
      left_many = length-set left i None ∙ before.left_many;
      done = λ v h. at v h (cases_lt v i);
      rest = λ v h. get_or-set_other mid i v (get_or left i None) None (apart v h) ∙ before.rest v (omega (arith, h));
      untouched = λ v h. get_or-set_other left i v None None (apart v h) ∙ before.untouched v (omega (arith, h));
    }
      where
        apart : (v : ℕ) → i + 1 ≤ v → v ≢ i
        apart v h same = absurd (omega (arith, h, same))

        at : (v : ℕ) → v < i + 1 → (v < i) ⊎ (i ≤ v) → get_or (set mid i (get_or left i None)) v None ≡ or_other (get_or old v None) (get_or others v None)
        at v h (inl b) = get_or-set_other mid i v (get_or left i None) None (λ same. absurd (omega (arith, b, same))) ∙ before.done v b
        at v h (inr b) =
            let same : v ≡ i = omega (arith, h, b) in
            let many = before.as_many in
            let was : get_or old i None ≡ None = sym (before.rest i (omega arith)) ∙ e in
            subst (λ w. get_or (set mid i (get_or left i None)) w None ≡ or_other (get_or old w None) (get_or others w None)) (sym same)
            (get_or-set_same mid i (get_or left i None) None (omega (arith, inside, many))
            ∙ before.untouched i (omega arith)
            ∙ sym (ap (λ o. or_other o (get_or others i None)) was))

    by : (o : Option (List LinkNo)) → get_or mid i None ≡ o → new ≡ cond (is_none o) (set mid i (get_or left i None)) mid → rest ≡ cond (is_none o) (set left i None) left → Filling others (i + 1) old new rest
    by None e f g = subst (λ n. Filling others (i + 1) old n rest) (sym f) (subst (λ r. Filling others (i + 1) old (set mid i (get_or left i None)) r) (sym g) (taken e))
    by (Some walk) e f g = subst (λ n. Filling others (i + 1) old n rest) (sym f) (subst (λ r. Filling others (i + 1) old mid r) (sym g) (kept walk e))

-- ---- something of each trip, one after another
same_some : {X : Type 0} (a b : X) → Some a ≡ Some b → a ≡ b
same_some a b e = cc

pub record Begun {X : Type 0} (Is : ℕ → Trip → X → Type 0) (trips : List Trip) (i : ℕ) (xs : List X) : Type 0 where
  pub as_many : length xs ≡ i
  pub each : (v : ℕ) (trip : Trip) (x : X) → slice_get trips v ≡ Some trip → slice_get xs v ≡ Some x → Is v trip x

pub begun_more : {X : Type 0} (Is : ℕ → Trip → X → Type 0) (trips : List Trip) (i : ℕ) (xs : List X) (trip : Trip) (x : X) → slice_get trips i ≡ Some trip → Is i trip x → Begun Is trips i xs → Begun Is trips (i + 1) (xs ++ x ∷ [])
begun_more {X} Is trips i xs trip x here is before = record {
  as_many = let long = length-append xs (x ∷ []) in let many = before.as_many in omega (arith, long, many);
  each = λ v t y te ye. at v t y te ye (cases_lt v i);
}
  where
    at : (v : ℕ) (t : Trip) (y : X) → slice_get trips v ≡ Some t → slice_get (xs ++ x ∷ []) v ≡ Some y → (v < i) ⊎ (i ≤ v) → Is v t y
    at v t y te ye (inl b) = let many = before.as_many in before.each v t y te (sym (push_before xs x v (omega (arith, b, many))) ∙ ye)
    at v t y te ye (inr b) =
        let many = before.as_many in
        let long = length-append xs (x ∷ []) in
        let within = slice_get_within (xs ++ x ∷ []) v y ye in
        let same : i ≡ v = omega (arith, within, long, many, b) in
        let there : slice_get (xs ++ x ∷ []) i ≡ Some x = subst (λ n. slice_get (xs ++ x ∷ []) n ≡ Some x) many (push_last xs x) in
        let x_is : x ≡ y = same_some x y (sym there ∙ subst (λ w. slice_get (xs ++ x ∷ []) w ≡ Some y) (sym same) ye) in
        let t_is : trip ≡ t = same_some trip t (sym here ∙ subst (λ w. slice_get trips w ≡ Some t) (sym same) te) in
        subst (λ w. Is w t y) same (subst (λ u. Is i u y) t_is (subst (λ z. Is i trip z) x_is is))

-- ---- the first routes
pub started_are : (costs : Timing) (net : NetRows) (start : List StartRow) (trips : List Trip) (asks : List Ask) (others old new : Walks)
    → AreTold (TellsStart net start) (λ v. true) trips old → asks ≡ asks_for_rest old → AreTold (WalkOf costs net) (asks_walk asks) trips others → FillsIn others old new
    → AreStartedBy costs net start trips new
started_are costs net start trips asks others old new started asked told fills = record {
  as_many = fills.as_many ∙ started.as_many;
  each = λ v trip route t r.
      let within = slice_get_within new v route r in
      let many = fills.as_many in
      let inside : v < length old = omega (arith, within, many) in
      by v trip route t inside (sym (get_or_from_slice_get new v route None r) ∙ fills.each v inside) (get_or old v None) refl;
}
  where
    others_at : (v : ℕ) (trip : Trip) → slice_get trips v ≡ Some trip → slice_get others v ≡ Some (get_or others v None)
    others_at v trip t = let within = slice_get_within trips v trip t in let many = told.as_many in slice_get-get_or others v None (omega (arith, within, many))

    asked_at : (xs : Walks) (v : ℕ) → slice_get xs v ≡ Some None → asks_walk (asks_for_rest xs) v ≡ true
    asked_at [] v e = cc
    asked_at (x ∷ xs) zero e = let is : x ≡ None = cc in ap (λ o. is_none o) is
    asked_at (x ∷ xs) (suc v) e = asked_at xs v e

    by : (v : ℕ) (trip : Trip) (route : Option (List LinkNo)) → slice_get trips v ≡ Some trip → v < length old → route ≡ or_other (get_or old v None) (get_or others v None)
        → (o : Option (List LinkNo)) → get_or old v None ≡ o → StartsOn costs net start trip route
    by v trip route t inside is (Some walk) e =
        inl (walk, is ∙ ap (λ o. or_other o (get_or others v None)) e, started.each v (Some walk) (slice_get-get_or old v None inside ∙ ap (λ o. Some o) e) trip refl t)
    by v trip route t inside is None e =
        let there : slice_get old v ≡ Some None = slice_get-get_or old v None inside ∙ ap (λ o. Some o) e in
        let route_is : route ≡ get_or others v None = is ∙ ap (λ o. or_other o (get_or others v None)) e in
        let ask : asks_walk asks v ≡ true = ap (λ l. asks_walk l v) asked ∙ asked_at old v there in
        inr (
          started.each v None there trip refl t,
          subst (λ r. WalkOf costs net trip r) (sym route_is) (told.each v (get_or others v None) (others_at v trip t) trip ask t),
        )

pub started_walk : (costs : Timing) (net : NetRows) (start : List StartRow) (trips : List Trip) (routes : Walks) → AreStartedBy costs net start trips routes → AreWalks net trips routes
started_walk costs net start trips routes are v trip route t n = by (are.each v trip (Some route) t n)
  where
    by : StartsOn costs net start trip (Some route) → IsWalk net trip.origin trip.destination (link_numbers route)
    by (inl (walk, is, (r, row, at, fits))) =
        let same : walk ≡ route = sym (same_some route walk is) in
        subst (λ w. IsWalk net trip.origin trip.destination (link_numbers w)) same fits.walks
    by (inr (none, chosen)) = walks_by costs net trip.origin trip.destination trip.departure (link_numbers route) chosen
