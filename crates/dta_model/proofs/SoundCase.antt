-- A sound loading: two links in a line.
use Rattle.std.proofs.Common.{◌≡◌, ◌≢◌, ℕ, zero, suc, ◌<◌, ◌≤◌, List, [], ◌∷◌, refl, subst, arith, Option, Some}
use Rattle.std.specs.List.{IsDistinct}
use Rattle.std.specs.List.Sorted.{IsNonDecreasingBy}
use Rattle.std.specs.Prelude.{All, IsSome, nat_eq, slice_get}
use Rattle.std.proofs.lemmas.List.Elements.{All-cons, All-nil}
use Rattle.std.proofs.lemmas.Option.{none-some, same_Some}
use Rattle.net_core.specs.Network.{IsNet, is_named, turn, turn_at}
use Rattle.net_core.specs.Rates.{AreLinkWindows, AreWindows}
use Rattle.net_core.specs.Rows.{IsBetween, IsLinkInRange, IsTurning, IsTurnInRange, link_in}
use Rattle.net_core.specs.declared.rows.LinkNo.{LinkNo}
use Rattle.net_core.specs.declared.rows.LinkRow.{LinkRow}
use Rattle.net_core.specs.declared.rows.NetRows.{NetRows}
use Rattle.dta_model.specs.Examples.{in_a_line, link, number, trip, two_links_in_a_line}
use Rattle.dta_model.specs.Plans.{link_numbers}
use Rattle.dta_model.specs.Sound.{AreWalks, AreTrips, IsSound}
use Rattle.dta_model.specs.Walks.{IsWalk, begins_in, ends_in}
use Rattle.dta_model.specs.declared.trip.Trip.{Trip}
use Rattle.dta_model.proofs.Rising.{rising-cons, rising-same}

abbrev first : LinkRow
first = link 0 0 1 10 125 600000000

abbrev second : LinkRow
second = link 1 1 2 10 125 600000000

abbrev line : NetRows
line = in_a_line first second []

in_range : (id from to : ℕ) → IsLinkInRange (link id from to 10 125 600000000)
in_range id from to = record { moves = omega arith; free = omega arith; stores = omega arith; storage = omega arith; rate = omega arith }

is_net : IsNet line
unfolding IsDistinct
is_net = record {
  nodes = record { distinct = ((refl, (refl, tt)), ((refl, tt), (tt, tt))); few = omega arith };
  links = record {
    distinct = ((refl, tt), (tt, tt));
    few = omega arith;
    range = All-cons IsLinkInRange first (second ∷ []) (in_range 0 0 1) (All-cons IsLinkInRange second [] (in_range 1 1 2) (All-nil IsLinkInRange));
  };
  between = All-cons (IsBetween line.nodes) first (second ∷ []) (record { from = omega arith; to = omega arith }) (All-cons (IsBetween line.nodes) second [] (record { from = omega arith; to = omega arith }) (All-nil (IsBetween line.nodes)));
  turns = record { distinct = tt; few = omega arith; range = All-nil IsTurnInRange };
  turning = All-nil (IsTurning line.links);
  link_windows = All-nil AreLinkWindows;
  turn_windows = All-nil AreWindows;
  of_links = omega arith;
  of_turns = omega arith;
}

-- the walk over both links
is_walk : IsWalk line 1 3 (0 ∷ 1 ∷ [])
unfolding begins_in ends_in link_in turn turn_at is_named
is_walk = record {
  some = omega arith;
  links = All-cons (λ l. l < 2) 0 (1 ∷ []) (omega arith) (All-cons (λ l. l < 2) 1 [] (omega arith) (All-nil (λ l. l < 2)));
  begins = refl;
  turns = turns_of;
  ends = ends_of;
}
  where
    turns_of : (i a b : ℕ) → slice_get (0 ∷ 1 ∷ []) i ≡ Some a → slice_get (0 ∷ 1 ∷ []) (suc i) ≡ Some b → IsSome (turn line a b)
    turns_of zero a b e f = subst (λ x. IsSome (turn line x b)) (same_Some 0 a e) (subst (λ x. IsSome (turn line 0 x)) (same_Some 1 b f) refl)
    turns_of (suc zero) a b e f = absurd (none-some b f)
    turns_of (suc (suc i)) a b e f = absurd (none-some b f)

    ends_of : (i l : ℕ) → slice_get (0 ∷ 1 ∷ []) i ≡ Some l → ends_in line 3 l ≡ nat_eq (suc i) 2
    ends_of zero l e = subst (λ x. ends_in line 3 x ≡ nat_eq 1 2) (same_Some 0 l e) refl
    ends_of (suc zero) l e = subst (λ x. ends_in line 3 x ≡ nat_eq 2 2) (same_Some 1 l e) refl
    ends_of (suc (suc i)) l e = absurd (none-some l e)

abbrev trips : List Trip
trips = trip 0 5 ∷ trip 1 15 ∷ trip 2 25 ∷ []

abbrev Apart : Trip → Type 0
Apart x = x.origin ≢ x.destination

abbrev Early : Trip → Type 0
Early x = x.departure < 60

trip_apart : (v d : ℕ) → Apart (trip v d)
unfolding trip
trip_apart v d e = let f : 1 ≡ 3 = e in absurd (omega (arith, f))

-- one departure is before another
trip_before : (u v d e : ℕ) → d ≤ e → (trip u d).departure ≤ (trip v e).departure
unfolding trip
trip_before u v d e h = h

trip_early : (v d : ℕ) → d < 60 → Early (trip v d)
unfolding trip
trip_early v d h = h

are_trips : AreTrips trips
unfolding trip
are_trips = record {
  few = omega arith;
  numbered = refl;
  apart = All-cons Apart (trip 0 5) (trip 1 15 ∷ trip 2 25 ∷ []) (trip_apart 0 5) (All-cons Apart (trip 1 15) (trip 2 25 ∷ []) (trip_apart 1 15) (All-cons Apart (trip 2 25) [] (trip_apart 2 25) (All-nil Apart)));
}

rise : IsNonDecreasingBy (λ x. x.departure) trips
rise =
    rising-cons (λ x. x.departure) (trip 0 5) (trip 1 15 ∷ trip 2 25 ∷ [])
    (All-cons (λ x. (trip 0 5).departure ≤ x.departure) (trip 1 15) (trip 2 25 ∷ []) (trip_before 0 1 5 15 (omega arith)) (All-cons (λ x. (trip 0 5).departure ≤ x.departure) (trip 2 25) [] (trip_before 0 2 5 25 (omega arith)) (All-nil (λ x. (trip 0 5).departure ≤ x.departure))))
    (rising-cons (λ x. x.departure) (trip 1 15) (trip 2 25 ∷ [])
    (All-cons (λ x. (trip 1 15).departure ≤ x.departure) (trip 2 25) [] (trip_before 1 2 15 25 (omega arith)) (All-nil (λ x. (trip 1 15).departure ≤ x.departure)))
    (rising-cons (λ x. x.departure) (trip 2 25) [] (All-nil (λ x. (trip 2 25).departure ≤ x.departure)) (rising-same (λ x. x.departure) 0 [] (All-nil (λ x. x.departure ≡ 0)))))

early : All Early trips
early = All-cons Early (trip 0 5) (trip 1 15 ∷ trip 2 25 ∷ []) (trip_early 0 5 (omega arith)) (All-cons Early (trip 1 15) (trip 2 25 ∷ []) (trip_early 1 15 (omega arith)) (All-cons Early (trip 2 25) [] (trip_early 2 25 (omega arith)) (All-nil Early)))

-- each vehicle takes both links
abbrev way : Option (List LinkNo)
way = Some (number 0 ∷ number 1 ∷ [])

walk_of : (v d : ℕ) (x : Trip) (route : List LinkNo) → Some (trip v d) ≡ Some x → Some way ≡ Some (Some route) → IsWalk line x.origin x.destination (link_numbers route)
unfolding trip
walk_of v d x route e f =
    subst (λ y. IsWalk line y.origin y.destination (link_numbers route)) (same_Some (trip v d) x e)
    (subst (λ y. IsWalk line 1 3 (link_numbers y)) (same_Some (number 0 ∷ number 1 ∷ []) route (same_Some way (Some route) f)) is_walk)

are_walks : AreWalks two_links_in_a_line.net two_links_in_a_line.trips two_links_in_a_line.routes
unfolding two_links_in_a_line
are_walks zero x route e f = walk_of 0 5 x route e f
are_walks (suc zero) x route e f = walk_of 1 15 x route e f
are_walks (suc (suc zero)) x route e f = walk_of 2 25 x route e f
are_walks (suc (suc (suc v))) x route e f = absurd (none-some x e)

pub two_links_are_sound : IsSound two_links_in_a_line
unfolding two_links_in_a_line
two_links_are_sound = record {
  net = is_net;
  delta_least = omega arith;
  delta_most = omega arith;
  horizon_least = omega arith;
  horizon_most = omega arith;
  queue = tt;
  trips = are_trips;
  rising = rise;
  early = early;
  each = refl;
  walks = are_walks;
}
