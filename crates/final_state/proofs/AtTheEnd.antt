-- The state of all vehicles, by their whereabouts, is that of the trace.
use Rattle.std.specs.Prelude.{count_by, nat_lt, slice_get}
use Rattle.std.proofs.Common.{◌≡◌, ℕ, ◌+◌, ◌<◌, Bool, true, false, cond, ◌&&◌, not, List, [], length, refl, ap, sym, ◌∙◌, arith, Option, Some, None, ◌⊎◌, inl, inr}
use Rattle.std.proofs.lemmas.Bool.{cases_Bool}
use Rattle.std.proofs.lemmas.Bool.Decides.{nat_tests}
use Rattle.std.proofs.lemmas.Option.{none-some, slice_get-get_or, slice_get_within}
use Rattle.std.proofs.lemmas.List.Elements.{All-get_or, All-weaker}
use Rattle.net_core.specs.declared.rows.LinkNo.{LinkNo}
use Rattle.dta_model.specs.declared.plan.Plan.{Plan}
use Rattle.dta_model.specs.Loading.{trace_after}
use Rattle.dta_model.specs.Plans.{departure_in, departure_of, vehicle_count, vehicles_of}
use Rattle.dta_model.specs.Sound.{IsSound}
use Rattle.dta_model.specs.State.{arrived_in, count_on, due_after, eight_after, eight_in, has_arrived, is_due, is_routed, leads_onto, leads_out, running_in, runs, some_route, waiting_in, waits}
use Rattle.dta_model.specs.Trace.{Arrived, Move, Onto, Target, has_moved, last_move, leads_there}
use Rattle.dta_model.proofs.Congruence.{count_same}
use Rattle.dta_model.proofs.Conserved.{mover_due}
use Rattle.dta_model.proofs.Onward.{vehicles_are_conserved}
use Rattle.dta_model.proofs.Fuel.{Lawful, last_in, trace-lawful}
use Rattle.dta_model.proofs.Standing.{no-last}
use Rattle.dta_model.proofs.Steady.{some_trip}
use Rattle.final_state.specs.Counts.{has_come, is_on, is_running, is_waiting, state_of}
use Rattle.final_state.specs.Whereabouts.{whereabouts_after, whereabouts_at, whereabouts_to}
use Rattle.final_state.specs.declared.whereabouts.Whereabouts.TheVariants as whereabouts
use Rattle.final_state.proofs.OnLinks.{count_on_is}

-- at the horizon each vehicle that has a route is due
due_is : (p : Plan) → IsSound p → (v : ℕ) → is_due p p.horizon v ≡ is_routed p v
unfolding is_due is_routed departure_of
due_is p sound v = route_step (slice_get p.routes v) refl
  where
    route_step : (o : Option (Option (List LinkNo))) → slice_get p.routes v ≡ o → (some_route o && nat_lt (departure_in (slice_get p.trips v)) p.horizon) ≡ some_route o
    route_step None e = refl
    route_step (Some None) e = refl
    route_step (Some (Some route)) e =
        let below = slice_get_within p.routes v (Some route) e in
        let each = sound.each in
        let there : v < length p.trips = omega (arith, below, each) in
        let early = All-get_or (λ trip. trip.departure < p.horizon) p.trips v some_trip there sound.early in
        rw (slice_get-get_or p.trips v some_trip there) (grind (arith, nat_tests))

-- by cases of whether a vehicle has a route, and of its last move
waiting_case : (r : Bool) (c : Bool) (o : Option Move) → (c ≡ false → o ≡ None) → (o ≡ None → c ≡ false) → is_waiting (cond r (whereabouts_after o) whereabouts.Unrouted) ≡ (r && not c)
waiting_case false c o none some = refl
waiting_case true true None none some = let clash : true ≡ false = some refl in cc
waiting_case true false None none some = refl
waiting_case true true (Some m) none some = by_target m.target
  where
    by_target : (x : Target) → is_waiting (whereabouts_to x) ≡ false
    by_target (Onto l) = refl
    by_target Arrived = refl
waiting_case true false (Some m) none some = let clash : Some m ≡ None = none refl in cc

running_case : (r : Bool) (o : Option Move) → is_running (cond r (whereabouts_after o) whereabouts.Unrouted) ≡ (r && leads_onto o)
running_case false o = refl
running_case true None = refl
running_case true (Some m) = by_target m.target
  where
    by_target : (x : Target) → is_running (whereabouts_to x) ≡ leads_onto (Some (record m { target = x }))
    by_target (Onto l) = refl
    by_target Arrived = refl

arrived_case : (r : Bool) (o : Option Move) → has_come (cond r (whereabouts_after o) whereabouts.Unrouted) ≡ (r && leads_out o)
arrived_case false o = refl
arrived_case true None = refl
arrived_case true (Some m) = by_target m.target
  where
    by_target : (x : Target) → has_come (whereabouts_to x) ≡ leads_out (Some (record m { target = x }))
    by_target (Onto l) = refl
    by_target Arrived = refl

link_case : (l : ℕ) (r : Bool) (o : Option Move) → (r ≡ false → o ≡ None) → leads_there l o ≡ is_on l (cond r (whereabouts_after o) whereabouts.Unrouted)
link_case l false o none = rw (none refl) refl
link_case l true None none = refl
link_case l true (Some m) none = by_target m.target
  where
    by_target : (x : Target) → leads_there l (Some (record m { target = x })) ≡ is_on l (whereabouts_to x)
    by_target (Onto b) = refl
    by_target Arrived = refl

module _ (p : Plan) (sound : IsSound p) where
  -- who has no route hasn't moved
  stays : (v : ℕ) → is_routed p v ≡ false → last_move v (trace_after p p.horizon) ≡ None
  stays v h = stays_step (cases_Bool (has_moved v (trace_after p p.horizon)))
    where
      stays_step : (has_moved v (trace_after p p.horizon) ≡ true) ⊎ (has_moved v (trace_after p p.horizon) ≡ false) → last_move v (trace_after p p.horizon) ≡ None
      stays_step (inl e) = let clash : true ≡ false = sym (mover_due p p.horizon (trace_after p p.horizon) (trace-lawful p p.horizon) v e) ∙ due_is p sound v ∙ h in cc
      stays_step (inr e) = no-last v (trace_after p p.horizon) e

  not_moved : (v : ℕ) → last_move v (trace_after p p.horizon) ≡ None → has_moved v (trace_after p p.horizon) ≡ false
  not_moved v h = moved_step (cases_Bool (has_moved v (trace_after p p.horizon)))
    where
      moved_step : (has_moved v (trace_after p p.horizon) ≡ true) ⊎ (has_moved v (trace_after p p.horizon) ≡ false) → has_moved v (trace_after p p.horizon) ≡ false
      moved_step (inl e) = let x = last_in (λ m. is_due p p.horizon m.vehicle ≡ true) v (trace_after p p.horizon) [] (All-weaker (Lawful p p.horizon) (λ m. is_due p p.horizon m.vehicle ≡ true) (λ m a. a.due) (trace_after p p.horizon) (trace-lawful p p.horizon)) e in absurd (none-some (x.0) (sym h ∙ x.1))
      moved_step (inr e) = e

  waiting_is : count_by (λ v. is_waiting (whereabouts_at p (trace_after p p.horizon) v)) (vehicles_of p) ≡ waiting_in p p.horizon (trace_after p p.horizon)
  unfolding waiting_in waits whereabouts_at
  waiting_is = count_same _ _ (λ v. waiting_case (is_routed p v) (has_moved v (trace_after p p.horizon)) (last_move v (trace_after p p.horizon)) (no-last v (trace_after p p.horizon)) (not_moved v) ∙ ap (λ d. d && not (has_moved v (trace_after p p.horizon))) (sym (due_is p sound v))) (vehicles_of p)

  running_is : count_by (λ v. is_running (whereabouts_at p (trace_after p p.horizon) v)) (vehicles_of p) ≡ running_in p p.horizon (trace_after p p.horizon)
  unfolding running_in runs whereabouts_at
  running_is = count_same _ _ (λ v. running_case (is_routed p v) (last_move v (trace_after p p.horizon)) ∙ ap (λ d. d && leads_onto (last_move v (trace_after p p.horizon))) (sym (due_is p sound v))) (vehicles_of p)

  arrived_is : count_by (λ v. has_come (whereabouts_at p (trace_after p p.horizon) v)) (vehicles_of p) ≡ arrived_in p p.horizon (trace_after p p.horizon)
  unfolding arrived_in has_arrived whereabouts_at
  arrived_is = count_same _ _ (λ v. arrived_case (is_routed p v) (last_move v (trace_after p p.horizon)) ∙ ap (λ d. d && leads_out (last_move v (trace_after p p.horizon))) (sym (due_is p sound v))) (vehicles_of p)

  on_is : (l : ℕ) → count_by (λ v. is_on l (whereabouts_at p (trace_after p p.horizon) v)) (vehicles_of p) ≡ count_on (trace_after p p.horizon) l
  unfolding whereabouts_at
  on_is l = count_same _ _ (λ v. sym (link_case l (is_routed p v) (last_move v (trace_after p p.horizon)) (stays v))) (vehicles_of p) ∙ sym (count_on_is p p.horizon l)

  pub all_is : state_of p.horizon (whereabouts_at p (trace_after p p.horizon)) (vehicle_count p) ≡ eight_after p p.horizon
  unfolding state_of eight_after eight_in
  all_is = rw (waiting_is, running_is, arrived_is, on_is 0, on_is 1, on_is 2, on_is 3) refl

  pub all_routed : (eight_after p p.horizon).waiting + (eight_after p p.horizon).running + (eight_after p p.horizon).arrived ≡ count_by (is_routed p) (vehicles_of p)
  unfolding eight_after eight_in due_after
  all_routed = (vehicles_are_conserved p p.horizon).totals ∙ count_same (is_due p p.horizon) (is_routed p) (due_is p sound) (vehicles_of p)
