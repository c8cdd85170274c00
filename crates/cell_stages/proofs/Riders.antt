-- What riders on links tell, and which rider is the first that waits.
use Rattle.std.specs.Prelude.{filter, find, slice_get, nat_le, option_map}
use Rattle.std.proofs.Common.{◌≡◌, ℕ, zero, suc, ◌+◌, ◌<◌, ◌≤◌, Bool, true, false, cond, ◌&&◌, ◌||◌, not, List, [], ◌∷◌, ◌++◌, length, map, refl, ap, sym, ◌∙◌, arith, Some, None}
use Rattle.std.proofs.lemmas.Bool.Decides.{nat_tests}
use Rattle.std.proofs.lemmas.List.{length-map}
use Rattle.dta_model.specs.declared.plan.Plan.{Plan}
use Rattle.dta_model.specs.Loading.{arrival_of, entries_of, is_entry, step_in, trace_after}
use Rattle.dta_model.specs.NodeMoves.{is_first, waits_for}
use Rattle.dta_model.specs.Plans.{departure_of, first_link, route_of, vehicle_count, vehicles_of}
use Rattle.dta_model.specs.Riders.{rider_at}
use Rattle.cell_stages.specs.Stages.{waiting_for}
use Rattle.dta_model.specs.State.{leads_onto}
use Rattle.dta_model.specs.Trace.{has_moved, moves_of, next_target, target_at}
use Rattle.cell_stages.specs.Transfers.{FirstWaits, RidersTell, first_due}
use Rattle.std.specs.List.{last_or, range_with_len}
use Rattle.dta_model.proofs.Pushes.{moves_made_is, has_moved-append}
use Rattle.dta_model.proofs.Riders.{enters, first_ahead, last_map, last_move_is, no_arrival}
use Rattle.dta_model.proofs.Standing.{in-queue}
use Rattle.dta_model.proofs.Conserved.{link_onto}
use Rattle.dta_model.proofs.Steady.{departures_rise}

pub riders_tell : RidersTell
unfolding rider_at entries_of arrival_of next_target
riders_tell p t l i v h =
    let T = trace_after p t in
    let x = in-queue l T i v h in
    let whole : filter is_entry (moves_of v T) ≡ moves_of v T = enters p t v (ap leads_onto (x.1) ∙ link_onto l (x.0).target (x.2)) in
    record {
      entered = ap (λ L. last_or None (map (λ m. m.step) L)) whole ∙ last_map None (moves_of v T) ∙ ap (λ o. option_map (λ m. m.step) o) (sym (last_move_is v T));
      next = ap (λ k. target_at (slice_get (route_of p v) k)) (moves_made_is v T ∙ sym (length-map (filter is_entry (moves_of v T)) (λ m. m.step) ∙ ap (λ L. length L) whole))
          ∙ ap target_at (sym (first_ahead (length (entries_of T v)) (route_of p v)));
      under_way = ap step_in (no_arrival (moves_of v T) whole);
    }

-- the first that waits
pub filter_two : (f g h : ℕ → Bool) → ((x : ℕ) → f x ≡ (g x && h x)) → (xs : List ℕ) → filter f xs ≡ filter h (filter g xs)
filter_two f g h e [] = refl
filter_two f g h e (x ∷ xs) = both_step (f x) (g x) (h x) (e x) refl (filter_two f g h e xs)
  where
    both_step : (a b c : Bool) → a ≡ (b && c) → c ≡ h x → filter f xs ≡ filter h (filter g xs) → cond a (x ∷ filter f xs) (filter f xs) ≡ filter h (cond b (x ∷ filter g xs) (filter g xs))
    both_step a true true s r ih = rw (s, ← r) (ap (λ ys. x ∷ ys) ih)
    both_step a true false s r ih = rw (s, ← r) ih
    both_step a false c s r ih = rw s ih

module _ (p : Plan) (rising : (u v : ℕ) → u ≤ v → v < vehicle_count p → departure_of p u ≤ departure_of p v) (t : ℕ) (f g : ℕ → Bool) (test : (v : ℕ) → g v ≡ (f v && nat_le (departure_of p v) t)) where
  none_later : (k from : ℕ) → from + k ≤ vehicle_count p → (v : ℕ) → v ≤ from → v < vehicle_count p → nat_le (departure_of p v) t ≡ false → find g (range_with_len from k) ≡ None
  none_later zero from h v l b e = refl
  none_later (suc k) from h v l b e =
      let rises = rising v from l (omega (arith, h)) in
      let late : nat_le (departure_of p from) t ≡ false = grind (arith, nat_tests) in
      let fails : g from ≡ false = test from ∙ ap (λ c. f from && c) late ∙ and_no (f from) in
      rw fails (none_later k (from + 1) (omega (arith, h)) v (omega (arith, l)) b e)
    where
      and_no : (b : Bool) → (b && false) ≡ false
      and_no true = refl
      and_no false = refl

  first_found : (k from : ℕ) → from + k ≤ vehicle_count p → find g (range_with_len from k) ≡ first_due p t (slice_get (filter f (range_with_len from k)) 0)
  first_found zero from h = refl
  first_found (suc k) from h = found_step (f from) (nat_le (departure_of p from) t) (g from) refl refl (test from) (first_found k (from + 1) (omega (arith, h))) (λ e. none_later k (from + 1) (omega (arith, h)) from (omega arith) (omega (arith, h)) e)
    where
      found_step : (a d c : Bool) → a ≡ f from → d ≡ nat_le (departure_of p from) t → c ≡ (f from && nat_le (departure_of p from) t) → find g (range_with_len (from + 1) k) ≡ first_due p t (slice_get (filter f (range_with_len (from + 1) k)) 0) → (nat_le (departure_of p from) t ≡ false → find g (range_with_len (from + 1) k) ≡ None)
          → cond c (Some from) (find g (range_with_len (from + 1) k)) ≡ first_due p t (slice_get (cond a (from ∷ filter f (range_with_len (from + 1) k)) (filter f (range_with_len (from + 1) k))) 0)
      found_step true true c r s e ih past = rw (e, ← r, ← s) refl
      found_step true false c r s e ih past = rw (e, ← r, ← s) (past (sym s))
      found_step false d c r s e ih past = rw (e, ← r) ih

pub first_waits : FirstWaits
unfolding waits_for waiting_for
first_waits p sound n t b T0 M =
    first_found p (departures_rise p sound) t (λ v. is_first b (first_link p v) && not (has_moved v (T0 ++ M))) (λ v. is_first b (first_link p v) && nat_le (departure_of p v) t && not (has_moved v (T0 ++ M))) (λ v. reorder (is_first b (first_link p v)) (nat_le (departure_of p v) t) (not (has_moved v (T0 ++ M)))) (vehicle_count p) 0 (omega arith)
    ∙ ap (λ L. first_due p t (slice_get L 0)) (filter_two (λ v. is_first b (first_link p v) && not (has_moved v (T0 ++ M))) (λ v. is_first b (first_link p v) && not (has_moved v T0)) (λ v. not (has_moved v M)) (λ v. both_not (is_first b (first_link p v)) (has_moved v T0) (has_moved v M) (has_moved v (T0 ++ M)) (has_moved-append v T0 M)) (vehicles_of p))
  where
    reorder : (a c d : Bool) → (a && c && d) ≡ ((a && d) && c)
    reorder true true true = refl
    reorder true true false = refl
    reorder true false true = refl
    reorder true false false = refl
    reorder false c d = refl

    both_not : (a x y z : Bool) → z ≡ (x || y) → (a && not z) ≡ ((a && not x) && not y)
    both_not true true y z e = rw e refl
    both_not true false y z e = rw e refl
    both_not false x y z e = refl
