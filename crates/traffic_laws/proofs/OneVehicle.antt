-- A sound loading in which nothing binds.
use Rattle.std.specs.List.{IsDistinct, list_all, range_with_len}
use Rattle.std.specs.Prelude.{IsSome, is_none, nat_eq, nat_lt, slice_get, ◌≢◌}
use Rattle.std.proofs.Common.{◌≡◌, ◌⊎◌, inl, inr, ℕ, zero, suc, ◌+◌, ◌<◌, ◌≤◌, Bool, true, false}
use Rattle.std.proofs.Common.{cond}
use Rattle.std.proofs.Common.{◌||◌, List, [], ◌∷◌, refl, ap, sym, ◌∙◌, subst, arith, Option}
use Rattle.std.proofs.Common.{Some, None}
use Rattle.std.proofs.lemmas.Bool.{and_parts}
use Rattle.std.proofs.lemmas.Bool.Decides.{eqb_tells}
use Rattle.std.proofs.lemmas.List.Elements.{All-cons, All-nil}
use Rattle.std.proofs.lemmas.Option.{none-some, same_Some}
use Rattle.std.proofs.Math.Dec.{eqb}
use Rattle.net_core.proofs.Orders.{lt_holds}
use Rattle.net_core.specs.Network.{IsNet, free_turn, is_named, limit_of, link_at, turn, turn_at}
use Rattle.net_core.specs.Network.{turn_windows}
use Rattle.net_core.specs.Rates.{AreLinkWindows, AreWindows, last_begun, rate_in}
use Rattle.net_core.specs.Rows.{IsBetween, IsLinkInRange, IsTurning, IsTurnInRange, link_in}
use Rattle.net_core.specs.declared.rows.LinkNo.{LinkNo}
use Rattle.dta_model.specs.Allowance.{allowance}
use Rattle.dta_model.specs.Examples.{number}
use Rattle.dta_model.specs.LinkTimes.{penalty_to}
use Rattle.dta_model.specs.OnLiterals.{traces_on_literals}
use Rattle.dta_model.specs.Plans.{link_allowance, link_numbers, route_of, turn_rates}
use Rattle.dta_model.specs.Sound.{AreWalks, IsSound}
use Rattle.dta_model.specs.TimedWalks.{penalty_steps}
use Rattle.dta_model.specs.Trace.{Arrived, Onto, Target, target_at}
use Rattle.dta_model.specs.Walks.{IsWalk, begins_in, ends_in}
use Rattle.dta_model.specs.declared.trip.Trip.{Trip}
use Rattle.dta_model.proofs.Rising.{rising-same}
use Rattle.traffic_laws.specs.WideLinks.{one_vehicle, wide, wide_line}
use Rattle.traffic_laws.specs.FreeFlow.{NothingBinds, entries_in, leavings_in, turns_in}

-- ---- it is sound
in_range : (id to : ℕ) → IsLinkInRange (wide id to)
in_range id to = record {
  moves = omega arith;
  free = omega arith;
  stores = omega arith;
  storage = omega arith;
  rate = omega arith;
}

is_net : IsNet wide_line
unfolding IsDistinct
is_net = record {
  nodes = record { distinct = ((refl, (refl, tt)), ((refl, tt), (tt, tt))); few = omega arith };
  links = record {
    distinct = ((refl, tt), (tt, tt));
    few = omega arith;
    range = All-cons IsLinkInRange (wide 0 1) (wide 1 2 ∷ []) (in_range 0 1)
        (All-cons IsLinkInRange (wide 1 2) [] (in_range 1 2) (All-nil IsLinkInRange));
  };
  between = All-cons (IsBetween wide_line.nodes) (wide 0 1) (wide 1 2 ∷ [])
      (record { from = omega arith; to = omega arith })
      (All-cons (IsBetween wide_line.nodes) (wide 1 2) []
      (record { from = omega arith; to = omega arith }) (All-nil (IsBetween wide_line.nodes)));
  turns = record { distinct = tt; few = omega arith; range = All-nil IsTurnInRange };
  turning = All-nil (IsTurning wide_line.links);
  link_windows = All-nil AreLinkWindows;
  turn_windows = All-nil AreWindows;
  of_links = omega arith;
  of_turns = omega arith;
}

is_walk : IsWalk wide_line 1 3 (0 ∷ 1 ∷ [])
unfolding begins_in ends_in link_in turn turn_at is_named
is_walk = record {
  some = omega arith;
  links = All-cons (λ l. l < 2) 0 (1 ∷ []) (omega arith)
      (All-cons (λ l. l < 2) 1 [] (omega arith) (All-nil (λ l. l < 2)));
  begins = refl;
  turns = turns_of;
  ends = ends_of;
}
  where
    turns_of : (i a b : ℕ) → slice_get (0 ∷ 1 ∷ []) i ≡ Some a
        → slice_get (0 ∷ 1 ∷ []) (suc i) ≡ Some b → IsSome (turn wide_line a b)
    turns_of zero a b e f =
        subst (λ x. IsSome (turn wide_line x b)) (same_Some 0 a e)
        (subst (λ x. IsSome (turn wide_line 0 x)) (same_Some 1 b f) refl)
    turns_of (suc zero) a b e f = absurd (none-some b f)
    turns_of (suc (suc i)) a b e f = absurd (none-some b f)

    ends_of : (i l : ℕ) → slice_get (0 ∷ 1 ∷ []) i ≡ Some l
        → ends_in wide_line 3 l ≡ nat_eq (suc i) 2
    ends_of zero l e = subst (λ x. ends_in wide_line 3 x ≡ nat_eq 1 2) (same_Some 0 l e) refl
    ends_of (suc zero) l e = subst (λ x. ends_in wide_line 3 x ≡ nat_eq 2 2) (same_Some 1 l e) refl
    ends_of (suc (suc i)) l e = absurd (none-some l e)

abbrev only : Trip
only = record { number = 0; origin = 1; destination = 3; departure = 1 }

abbrev way : Option (List LinkNo)
way = Some (number 0 ∷ number 1 ∷ [])

abbrev Early : Trip → Type 0
Early x = x.departure < 6

abbrev Apart : Trip → Type 0
Apart x = x.origin ≢ x.destination

is_apart : Apart only
is_apart e = let f : 1 ≡ 3 = e in absurd (omega (arith, f))

are_walks : AreWalks one_vehicle.net one_vehicle.trips one_vehicle.routes
unfolding one_vehicle
are_walks zero x route e f =
    subst (λ y. IsWalk wide_line y.origin y.destination (link_numbers route)) (same_Some only x e)
    (subst (λ y. IsWalk wide_line 1 3 (link_numbers y))
    (same_Some (number 0 ∷ number 1 ∷ []) route (same_Some way (Some route) f)) is_walk)
are_walks (suc v) x route e f = absurd (none-some x e)

pub is_sound : IsSound one_vehicle
unfolding one_vehicle
is_sound = record {
  net = is_net;
  delta_least = omega arith;
  delta_most = omega arith;
  horizon_least = omega arith;
  horizon_most = omega arith;
  queue = tt;
  trips = record {
    few = omega arith;
    numbered = refl;
    apart = All-cons Apart only [] is_apart (All-nil Apart);
  };
  rising = rising-same (λ x. x.departure) 1 (only ∷ [])
      (All-cons (λ x. x.departure ≡ 1) only [] refl (All-nil (λ x. x.departure ≡ 1)));
  early = All-cons Early only [] (omega arith) (All-nil Early);
  each = refl;
  walks = are_walks;
}

-- ---- nothing binds in it
every : (q : ℕ → Bool) (count from k : ℕ) → list_all q (range_with_len from count) ≡ true
    → from ≤ k → k < from + count → q k ≡ true
every q zero from k all low high = absurd (omega (arith, low, high))
every q (suc count) from k all low high =
    by (eqb_tells from k) (and_parts (q from) (list_all q (range_with_len (from + 1) count)) all)
    (every q count (from + 1) k)
  where
    by : ((eqb from k ≡ true) × (from ≡ k)) ⊎ ((eqb from k ≡ false) × (from ≢ k))
        → (q from ≡ true) × (list_all q (range_with_len (from + 1) count) ≡ true)
        → (list_all q (range_with_len (from + 1) count) ≡ true → from + 1 ≤ k
        → k < from + 1 + count → q k ≡ true) → q k ≡ true
    by (inl (t, same)) parts ih = ap q (sym same) ∙ parts.0
    by (inr (t, other)) parts ih = ih parts.1 (above from k other low) (omega (arith, high))
      where
        above : (a b : ℕ) → a ≢ b → a ≤ b → a + 1 ≤ b
        above a b n l = grind arith

abbrev lets_in : ℕ → ℕ → Bool
lets_in t l = nat_lt (entries_in one_vehicle t l) (link_allowance one_vehicle l t)

abbrev lets_out : ℕ → ℕ → Bool
lets_out t l = nat_lt (leavings_in one_vehicle t l) (link_allowance one_vehicle l t)

all_in : list_all (λ t. list_all (lets_in t) (range_with_len 0 2)) (range_with_len 0 6) ≡ true
unfolding traces_on_literals one_vehicle
all_in = refl

all_out : list_all (λ t. list_all (lets_out t) (range_with_len 0 2)) (range_with_len 0 6) ≡ true
unfolding traces_on_literals one_vehicle
all_out = refl

free_or_none : (a b : ℕ)
    → (turn wide_line a b ≡ None) ⊎ (turn wide_line a b ≡ Some free_turn)
unfolding turn turn_at is_named
free_or_none a b = by (nat_eq (link_at wide_line b).from.0 (link_at wide_line a).to.0)
  where
    by : (c : Bool) → (cond c (Some free_turn) None ≡ None)
        ⊎ (cond c (Some free_turn) None ≡ Some free_turn)
    by true = inr refl
    by false = inl refl

no_limit : (t a b : ℕ) → rate_in (turn_rates one_vehicle a b) t ≡ None
unfolding one_vehicle turn_windows last_begun
no_limit t a b = by (free_or_none a b)
  where
    by : (turn wide_line a b ≡ None) ⊎ (turn wide_line a b ≡ Some free_turn)
        → limit_of (turn wide_line a b) ≡ None
    by (inl e) = ap limit_of e
    by (inr e) = ap limit_of e

pass_of : (o : Option ℕ) (c : Bool) → o ≡ None → (is_none o || c) ≡ true
pass_of None c e = refl
pass_of (Some x) c e = cc

costs_nothing : (l : ℕ) (x : Target) → penalty_to one_vehicle l x ≡ 0
unfolding one_vehicle
costs_nothing l Arrived = refl
costs_nothing l (Onto b) = by (free_or_none l b)
  where
    by : (turn wide_line l b ≡ None) ⊎ (turn wide_line l b ≡ Some free_turn)
        → penalty_steps (turn wide_line l b) ≡ 0
    by (inl e) = ap penalty_steps e
    by (inr e) = ap penalty_steps e

pub nothing_binds : NothingBinds one_vehicle (λ l. 0)
unfolding one_vehicle
nothing_binds = record {
  points = refl;
  entries = λ t l early h.
      lt_holds (entries_in one_vehicle t l) (link_allowance one_vehicle l t)
      (every (lets_in t) 2 0 l
      (every (λ s. list_all (lets_in s) (range_with_len 0 2)) 6 0 t all_in (omega arith) early)
      (omega arith) h);
  leavings = λ t l early h.
      lt_holds (leavings_in one_vehicle t l) (link_allowance one_vehicle l t)
      (every (lets_out t) 2 0 l
      (every (λ s. list_all (lets_out s) (range_with_len 0 2)) 6 0 t all_out (omega arith) early)
      (omega arith) h);
  turns = λ t a b early.
      pass_of (rate_in (turn_rates one_vehicle a b) t)
      (nat_lt (turns_in one_vehicle t a b)
      (allowance (turn_rates one_vehicle a b) one_vehicle.delta t)) (no_limit t a b);
  penalties = λ v i l e.
      costs_nothing l (target_at (slice_get (route_of one_vehicle v) (suc i)));
}
