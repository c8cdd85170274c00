-- Routes of the next iteration.
use Rattle.std.proofs.Common.{◌≡◌, ◌≢◌, ◌⊎◌, inl, inr, ℕ, zero, suc, ◌+◌, ◌<◌, ◌≤◌, Bool, true, false, cond, List, [], ◌∷◌, ◌++◌, length, refl, ap, sym, ◌∙◌, subst, arith, Option, Some, None, get_or, set, take, drop, take_at}
use Rattle.std.specs.Prelude.{is_some, slice_get}
use Rattle.std.proofs.lemmas.Bool.{cases_lt}
use Rattle.std.proofs.lemmas.List.{length-append, length-set}
use Rattle.std.proofs.lemmas.Option.{slice_get-get_or, slice_get_within}
use Rattle.net_core.specs.declared.rows.LinkNo.{LinkNo}
use Rattle.net_core.specs.declared.rows.NetRows.{NetRows}
use Rattle.dta_model.specs.Plans.{link_numbers}
use Rattle.dta_model.specs.Walks.{IsWalk}
use Rattle.dta_model.specs.declared.trip.Trip.{Trip}
use Rattle.dta_model.specs.Sound.{AreWalks}
use Rattle.gap.specs.Gap.{has_route, routed}
use Rattle.time_routes.specs.Destinations.{AreTold, asked_walk, asks_walk, WalkOf}
use Rattle.time_routes.specs.declared.vehicles.Ask.{Ask}
use Rattle.route_flows.specs.Asked.{AreAsked, Renews}
use Rattle.trip_costs.specs.Timings.{Timing}
use Rattle.trip_costs.proofs.Timed.{walks_by}
use Rattle.trip_costs.specs.LoadingCosts.{kind_of}
use Rattle.route_flows.specs.Averages.{AreNextRoutes}
use Rattle.route_flows.specs.Selection.{renews}

-- ---- lists by place
pub push_before : {X : Type 0} (xs : List X) (x : X) (v : ℕ) → v < length xs → slice_get (xs ++ x ∷ []) v ≡ slice_get xs v
push_before [] x v h = absurd (omega (arith, h))
push_before (y ∷ xs) x zero h = refl
push_before (y ∷ xs) x (suc v) h = push_before xs x v (omega (arith, h))

pub push_last : {X : Type 0} (xs : List X) (x : X) → slice_get (xs ++ x ∷ []) (length xs) ≡ Some x
push_last [] x = refl
push_last (y ∷ xs) x = push_last xs x

set_here : {X : Type 0} (xs : List X) (i : ℕ) (x : X) → i < length xs → slice_get (set xs i x) i ≡ Some x
set_here [] i x h = absurd (omega (arith, h))
set_here (y ∷ xs) zero x h = refl
set_here (y ∷ xs) (suc i) x h = set_here xs i x (omega (arith, h))

set_other : {X : Type 0} (xs : List X) (i j : ℕ) (x : X) → i ≢ j → slice_get (set xs i x) j ≡ slice_get xs j
set_other [] i j x h = refl
set_other (y ∷ xs) zero zero x h = absurd (h refl)
set_other (y ∷ xs) zero (suc j) x h = refl
set_other (y ∷ xs) (suc i) zero x h = refl
set_other (y ∷ xs) (suc i) (suc j) x h = set_other xs i j x (λ e. h (ap suc e))

-- ---- what is asked
pub asked_more : (selected : ℕ → Bool) (routes : List (Option (List LinkNo))) (count : ℕ) (asks : List Ask) (ask : Ask) → ask ≡ record { least = has_route routes count; walk = selected count }
    → AreAsked selected routes count asks → AreAsked selected routes (count + 1) (asks ++ ask ∷ [])
asked_more selected routes count asks ask is are = record {
  as_many = let long = length-append asks (ask ∷ []) in let many = are.as_many in omega (arith, long, many);
  each = λ v h. by v h (cases_lt v count);
}
  where
    by : (v : ℕ) → v < count + 1 → (v < count) ⊎ (count ≤ v) → slice_get (asks ++ ask ∷ []) v ≡ Some (record { least = has_route routes v; walk = selected v })
    by v h (inl b) = let many = are.as_many in push_before asks ask v (omega (arith, b, many)) ∙ are.each v b
    by v h (inr b) =
        let same : v ≡ count = omega (arith, h, b) in
        subst (λ w. slice_get (asks ++ ask ∷ []) w ≡ Some (record { least = has_route routes w; walk = selected w })) (sym same)
        (subst (λ n. slice_get (asks ++ ask ∷ []) n ≡ Some (record { least = has_route routes count; walk = selected count })) are.as_many (push_last asks ask ∙ ap Some is))

pub ask_is : (selected : ℕ → Bool) (routes : List (Option (List LinkNo))) (v : ℕ) (route : Option (List LinkNo)) (a b : Bool) (ask : Ask) → slice_get routes v ≡ Some route → a ≡ is_some route → b ≡ selected v
    → ask ≡ record { least = a; walk = b } → ask ≡ record { least = has_route routes v; walk = selected v }
ask_is selected routes v route a b ask r ha hb is = same a b (has_route routes v) (selected v) ask (ha ∙ ap routed (sym r)) hb is
  where
    same : (a b c d : Bool) (ask : Ask) → a ≡ c → b ≡ d → ask ≡ record { least = a; walk = b } → ask ≡ record { least = c; walk = d }
    same a b c d ask e f is = cc

-- ---- routes that are renewed
-- the routes of the first vehicles are renewed, and the walks of the others are still there
pub record Renewing (selected : ℕ → Bool) (walks : List (Option (List LinkNo))) (count : ℕ) (old new left : List (Option (List LinkNo))) : Type 0 where
  pub renews : Renews selected walks count old new
  pub as_many : length left ≡ length walks
  pub untouched : (v : ℕ) → count ≤ v → slice_get left v ≡ slice_get walks v

pub renewing_none : (selected : ℕ → Bool) (walks old : List (Option (List LinkNo))) → Renewing selected walks 0 old old walks
renewing_none selected walks old = record {
  renews = record { as_many = refl; renewed = λ v h s. absurd (omega (arith, h)); others = λ v s. refl };
  as_many = refl;
  untouched = λ v h. refl;
}

pub renewing_more : (selected : ℕ → Bool) (walks : List (Option (List LinkNo))) (i : ℕ) (old mid left new rest : List (Option (List LinkNo))) → i < length old → length walks ≡ length old
    → new ≡ cond (selected i) (set mid i (get_or left i None)) mid → rest ≡ cond (selected i) (set left i (get_or mid i None)) left
    → Renewing selected walks i old mid left → Renewing selected walks (i + 1) old new rest
renewing_more selected walks i old mid left new rest inside long is leaves before = by (selected i) refl is leaves
  where
    apart : (v : ℕ) (a b : Bool) → selected v ≡ a → selected i ≡ b → a ≢ b → i ≢ v
    apart v a b ha hb other same = other (sym ha ∙ ap (λ w. selected w) (sym same) ∙ hb)

    below : (v : ℕ) → v < i + 1 → i ≢ v → v < i
    below v h other = earlier (cases_lt v i)
      where
        earlier : (v < i) ⊎ (i ≤ v) → v < i
        earlier (inl b) = b
        earlier (inr b) = absurd (other (omega (arith, h, b)))

    kept : selected i ≡ false → Renewing selected walks (i + 1) old mid left
    kept s = record {
      renews = record {
        as_many = before.renews.as_many;
        renewed = λ v h t. before.renews.renewed v (below v h (apart v true false t s (λ q. cc))) t;
        others = before.renews.others;
      };
      as_many = before.as_many;
      untouched = λ v h. before.untouched v (omega (arith, h));
    }

    taken : selected i ≡ true → Renewing selected walks (i + 1) old (set mid i (get_or left i None)) (set left i (get_or mid i None))
    taken s = record {
      renews = record {
        as_many = length-set mid i (get_or left i None) ∙ before.renews.as_many;
        renewed = λ v h t. at_place v h t (cases_lt v i);
        others = λ v f. set_other mid i v (get_or left i None) (apart v false true f s (λ q. cc)) ∙ before.renews.others v f;
      };
      as_many = length-set left i (get_or mid i None) ∙ before.as_many;
      untouched = λ v h. set_other left i v (get_or mid i None) (λ same. absurd (omega (arith, same, h))) ∙ before.untouched v (omega (arith, h));
    }
      where
        in_mid : i < length mid
        in_mid = let m = before.renews.as_many in omega (arith, m, inside)

        in_left : i < length left
        in_left = let m = before.as_many in omega (arith, m, long, inside)

        at_place : (v : ℕ) → v < i + 1 → selected v ≡ true → (v < i) ⊎ (i ≤ v) → slice_get (set mid i (get_or left i None)) v ≡ slice_get walks v
        at_place v h t (inl b) = set_other mid i v (get_or left i None) (λ same. absurd (omega (arith, same, b))) ∙ before.renews.renewed v b t
        at_place v h t (inr b) =
            let same : v ≡ i = omega (arith, h, b) in
            subst (λ w. slice_get (set mid i (get_or left i None)) w ≡ slice_get walks w) (sym same)
            (set_here mid i (get_or left i None) in_mid ∙ sym (slice_get-get_or left i None in_left) ∙ before.untouched i (omega arith))

    by : (b : Bool) → selected i ≡ b → new ≡ cond b (set mid i (get_or left i None)) mid → rest ≡ cond b (set left i (get_or mid i None)) left → Renewing selected walks (i + 1) old new rest
    by true s e f = subst (λ n. Renewing selected walks (i + 1) old n rest) (sym e) (subst (λ r. Renewing selected walks (i + 1) old (set mid i (get_or left i None)) r) (sym f) (taken s))
    by false s e f = subst (λ n. Renewing selected walks (i + 1) old n rest) (sym e) (subst (λ r. Renewing selected walks (i + 1) old mid r) (sym f) (kept s))

-- a list of which all places were lent has what was left there
pub lent : {X : Type 0} (n : ℕ) (items base now : List X) → n ≡ length items → base ≡ items → length now ≡ length base → take n (now ++ drop (length now) items) ≡ now
lent n items base now long is many = take_at now (drop (length now) items) n (many ∙ ap length is ∙ sym long)

-- the same where the routes that are renewed were lent
pub renewed_lent : (selected : ℕ → Bool) (walks shown : List (Option (List LinkNo))) (n : ℕ) (items base renewed new : List (Option (List LinkNo))) → n ≡ length items → base ≡ items → shown ≡ walks
    → Renews selected shown (length base) base renewed → new ≡ take n (renewed ++ drop (length renewed) items) → Renews selected walks (length items) items new
renewed_lent selected walks shown n items base renewed new many bi sw are is =
    subst (λ r. Renews selected walks (length items) items r) (sym (is ∙ lent n items base renewed many bi are.as_many))
    (subst (λ l. Renews selected walks (length l) l renewed) bi (subst (λ w. Renews selected w (length base) base renewed) sw are))

-- ---- the next routes
pub next_are : (costs : Timing) (net : NetRows) (trips : List Trip) (k : ℕ) (routes lent_routes base walks new : List (Option (List LinkNo))) (asks shown : List Ask) → length routes ≡ length trips → lent_routes ≡ routes → base ≡ routes → shown ≡ asks
    → AreAsked (renews (kind_of costs) k) lent_routes (length lent_routes) asks → AreTold (WalkOf costs net) (asks_walk shown) trips walks → Renews (renews (kind_of costs) k) walks (length base) base new → AreNextRoutes costs net trips k routes new
next_are costs net trips k routes lent_routes base walks new asks shown long lent_is base_is shown_is asked told are = record {
  as_many = are.as_many ∙ ap length base_is ∙ long;
  selected = λ v trip route s t n. (
      let within = slice_get_within trips v trip t in
      let there : v < length routes = omega (arith, within, long) in
      let ask : asks_walk shown v ≡ true = ap (λ l. asks_walk l v) shown_is ∙ ap asked_walk (asked.each v (subst (λ l. v < length l) (sym lent_is) there)) ∙ s in
      told.each v route (sym (are.renewed v (subst (λ l. v < length l) (sym base_is) there) s) ∙ n) trip ask t);
  others = λ v f. are.others v f ∙ ap (λ l. slice_get l v) base_is;
}

pub next_walk : (costs : Timing) (net : NetRows) (trips : List Trip) (k : ℕ) (old new : List (Option (List LinkNo))) → AreWalks net trips old → AreNextRoutes costs net trips k old new → AreWalks net trips new
next_walk costs net trips k old new before next v trip route t n = by (renews (kind_of costs) k v) refl
  where
    by : (b : Bool) → renews (kind_of costs) k v ≡ b → IsWalk net trip.origin trip.destination (link_numbers route)
    by true s = walks_by costs net trip.origin trip.destination trip.departure (link_numbers route) (next.selected v trip (Some route) s t n)
    by false s = before v trip route t (sym (next.others v s) ∙ n)
