-- There is one list of chosen walks, and one list of next routes.
use Rattle.std.proofs.Common.{◌≡◌, ℕ, zero, suc, ◌<◌, Bool, true, false, List, [], ◌∷◌, length, refl, ap, sym, ◌∙◌, arith, Option, Some, None, get_or, Ordering, Less, Equal, Greater}
use Rattle.std.specs.Prelude.{slice_get}
use Rattle.std.specs.Cmp.Lexicographic.{slice_cmp}
use Rattle.std.specs.Ordering.{is_le, nat_cmp, ordering_reverse}
use Rattle.std.proofs.lemmas.Cmp.{nat_list_cmp_total}
use Rattle.std.proofs.lemmas.Map.Lookups.{exact_bytes}
use Rattle.std.proofs.lemmas.Option.{slice_get-get_or}
use Rattle.net_core.specs.declared.rows.LinkNo.{LinkNo}
use Rattle.net_core.specs.declared.rows.NetRows.{NetRows}
use Rattle.dta_model.specs.Least.{IsChosen}
use Rattle.dta_model.specs.Plans.{link_numbers}
use Rattle.dta_model.specs.TimedWalks.{walk_time}
use Rattle.dta_model.specs.declared.trip.Trip.{Trip}
use Rattle.time_routes.specs.Destinations.{WalkOf}
use Rattle.trip_costs.specs.Timings.{Links, Timing, Trips}
use Rattle.trip_costs.specs.TripWalks.{IsChosenBy, IsChosenTrip}
use Rattle.trip_costs.specs.TripCosts.{TravelCosts, time_by}
use Rattle.trip_costs.proofs.Timed.{walks_by}
use Rattle.trip_costs.specs.LoadingCosts.{kind_of}
use Rattle.route_flows.specs.Selection.{renews}
use Rattle.route_flows.specs.Laws.{ChosenAreDetermined, NextAreDetermined}
use Rattle.labels.proofs.Basics.{some_same}

-- ---- one walk comes first
equal_both : (a b : Ordering) → is_le a ≡ true → is_le b ≡ true → a ≡ ordering_reverse b → a ≡ Equal
equal_both Equal b h k r = refl
equal_both Greater b h k r = cc
equal_both Less Less h k r = cc
equal_both Less Equal h k r = cc
equal_both Less Greater h k r = cc

lists_turned : (xs ys : List ℕ) → is_le (slice_cmp nat_cmp xs ys) ≡ true → is_le (slice_cmp nat_cmp ys xs) ≡ true → xs ≡ ys
lists_turned xs ys h k = exact_bytes xs ys (equal_both (slice_cmp nat_cmp xs ys) (slice_cmp nat_cmp ys xs) h k (nat_list_cmp_total.antisymm xs ys))

abbrev number : ℕ → LinkNo
number n = record { 0 = n }

same_numbers : (a b : List LinkNo) → link_numbers a ≡ link_numbers b → a ≡ b
same_numbers [] [] h = refl
same_numbers [] (y ∷ b) h = cc
same_numbers (x ∷ a) [] h = cc
same_numbers (x ∷ a) (y ∷ b) h =
    let heads : x.0 ≡ y.0 = cc in
    let tails : link_numbers a ≡ link_numbers b = cc in
    let rest : a ≡ b = same_numbers a b tails in
    let first : x ≡ y = ap (λ n. number n) heads in
    ap (λ z. z ∷ a) first ∙ ap (λ l. y ∷ l) rest

chosen_once : (at : ℕ → ℕ → ℕ) (net : NetRows) (o d start : ℕ) (a b : List LinkNo) → IsChosen at net o d start (link_numbers a) → IsChosen at net o d start (link_numbers b) → a ≡ b
chosen_once at net o d start a b x y =
    let ab = x.none_less (link_numbers b) y.walks in
    let ba = y.none_less (link_numbers a) x.walks in
    let same : walk_time at net start (link_numbers b) ≡ walk_time at net start (link_numbers a) = omega (arith, ab, ba) in
    same_numbers a b (lists_turned (link_numbers a) (link_numbers b) (x.first (link_numbers b) y.walks same) (y.first (link_numbers a) x.walks (sym same)))

trip_once : (costs : TravelCosts) (net : NetRows) (o d start : ℕ) (a b : List LinkNo) → IsChosenTrip costs net o d start (link_numbers a) → IsChosenTrip costs net o d start (link_numbers b) → a ≡ b
trip_once costs net o d start a b x y =
    let ab = x.none_less (link_numbers b) y.walks in
    let ba = y.none_less (link_numbers a) x.walks in
    let same : time_by costs net start (link_numbers b) ≡ time_by costs net start (link_numbers a) = omega (arith, ab, ba) in
    let more = x.fewest (link_numbers b) y.walks same in
    let fewer = y.fewest (link_numbers a) x.walks (sym same) in
    let many : length (link_numbers b) ≡ length (link_numbers a) = omega (arith, more, fewer) in
    same_numbers a b (lists_turned (link_numbers a) (link_numbers b) (x.first (link_numbers b) y.walks same many) (y.first (link_numbers a) x.walks (sym same) (sym many)))

once_by : (costs : Timing) (net : NetRows) (o d start : ℕ) (a b : List LinkNo) → IsChosenBy costs net o d start (link_numbers a) → IsChosenBy costs net o d start (link_numbers b) → a ≡ b
once_by (Links at) net o d start a b x y = chosen_once at net o d start a b x y
once_by (Trips costs) net o d start a b x y = trip_once costs net o d start a b x y

pub walk_once : (costs : Timing) (net : NetRows) (trip : Trip) (a b : Option (List LinkNo)) → WalkOf costs net trip a → WalkOf costs net trip b → a ≡ b
walk_once costs net trip None None x y = refl
walk_once costs net trip None (Some b) x y = absurd (x (link_numbers b) (walks_by costs net trip.origin trip.destination trip.departure (link_numbers b) y))
walk_once costs net trip (Some a) None x y = absurd (y (link_numbers a) (walks_by costs net trip.origin trip.destination trip.departure (link_numbers a) x))
walk_once costs net trip (Some a) (Some b) x y = ap Some (once_by costs net trip.origin trip.destination trip.departure a b x y)

-- ---- lists by place
pub same_lists : {X : Type 0} (xs ys : List X) → length xs ≡ length ys → ((v : ℕ) (x y : X) → slice_get xs v ≡ Some x → slice_get ys v ≡ Some y → x ≡ y) → xs ≡ ys
same_lists [] [] long each = refl
same_lists [] (y ∷ ys) long each = absurd (omega (arith, long))
same_lists (x ∷ xs) [] long each = absurd (omega (arith, long))
same_lists (x ∷ xs) (y ∷ ys) long each =
    let head : x ≡ y = each zero x y refl refl in
    let rest : xs ≡ ys = same_lists xs ys (omega (arith, long)) (λ v a b e f. each (suc v) a b e f) in
    cc

pub in_list : {X : Type 0} (xs : List X) (v : ℕ) (x : X) → slice_get xs v ≡ Some x → v < length xs
in_list [] v x h = cc
in_list (y ∷ xs) zero x h = omega arith
in_list (y ∷ xs) (suc v) x h = let i = in_list xs v x h in omega (arith, i)

module _ (trips : List Trip) where
  pub trip_at : (v : ℕ) → v < length trips → (trip : Trip) × (slice_get trips v ≡ Some trip)
  trip_at v h = (get_or trips v (record { number = 0; origin = 0; destination = 0; departure = 0 }), slice_get-get_or trips v (record { number = 0; origin = 0; destination = 0; departure = 0 }) h)

pub chosen_are_determined : ChosenAreDetermined
chosen_are_determined costs net trips a b x y =
    same_lists a b (x.as_many ∙ sym y.as_many) one
  where
    one : (v : ℕ) (r s : Option (List LinkNo)) → slice_get a v ≡ Some r → slice_get b v ≡ Some s → r ≡ s
    one v r s e f =
        let inside = in_list a v r e in
        let long = x.as_many in
        let t = trip_at trips v (omega (arith, inside, long)) in
        walk_once costs net (t.0) r s (x.each v (t.0) r (t.1) e) (y.each v (t.0) s (t.1) f)

pub next_are_determined : NextAreDetermined
next_are_determined costs net trips k old a b x y =
    same_lists a b (x.as_many ∙ sym y.as_many) one
  where
    one : (v : ℕ) (r s : Option (List LinkNo)) → slice_get a v ≡ Some r → slice_get b v ≡ Some s → r ≡ s
    one v r s e f = by (renews (kind_of costs) k v) refl
      where
        by : (t : Bool) → renews (kind_of costs) k v ≡ t → r ≡ s
        by true h =
            let inside = in_list a v r e in
            let long = x.as_many in
            let t = trip_at trips v (omega (arith, inside, long)) in
            walk_once costs net (t.0) r s (x.selected v (t.0) r h (t.1) e) (y.selected v (t.0) s h (t.1) f)
        by false h = some_same r s (sym e ∙ x.others v h ∙ sym (y.others v h) ∙ f)
