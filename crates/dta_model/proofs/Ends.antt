-- When the visits of a journey end.
use Rattle.std.proofs.Common.{◌≡◌, ℕ, zero, suc, ◌<◌, ◌≤◌, Bool, true, false, cond, not, List, [], ◌∷◌, ◌++◌, length, map, refl, ap, sym, ◌∙◌, subst, arith, Option, Some, None}
use Rattle.std.specs.Prelude.{filter, find, option_map, option_to_list, slice_get}
use Rattle.std.proofs.lemmas.Bool.{eq-eqb}
use Rattle.std.proofs.lemmas.List.{length-map, map-append}
use Rattle.std.proofs.lemmas.List.FromFn.{get_or-range_with_len, length-range_with_len}
use Rattle.std.proofs.lemmas.Option.{get_or_from_slice_get, option_and_then_some, slice_get-map, slice_get_within, none-some, same_Some}
use Rattle.net_core.specs.Network.{numbers_below}
use Rattle.dta_model.specs.declared.loaded.Journey.{Journey}
use Rattle.dta_model.specs.declared.plan.Plan.{Plan}
use Rattle.dta_model.specs.Laws.{JourneysEndInOrder, visit_begins, visit_ends}
use Rattle.dta_model.specs.Loading.{arrival_of, entries_of, is_entry, journey_of, journeys_of, step_in, trace_after}
use Rattle.dta_model.specs.Plans.{route_of, vehicle_count, vehicles_of}
use Rattle.dta_model.specs.Trace.{Move, leads_to, moves_of}
use Rattle.dta_model.proofs.Arrivals.{arrival_is_last}
use Rattle.dta_model.proofs.Journeys.{routes_are_followed}
use Rattle.dta_model.proofs.Visits.{visits_end_in_order}

-- the place of a number among the first ones is the number
pub got_number : (n i w : ℕ) → slice_get (numbers_below n) i ≡ Some w → w ≡ i
got_number n i w e =
    let h = slice_get_within (numbers_below n) i w e in
    sym (get_or_from_slice_get (numbers_below n) i w 0 e) ∙ get_or-range_with_len 0 n i 0 (subst (λ k. i < k) (length-range_with_len 0 n) h) ∙ omega arith

-- what a present value was mapped from
pub map_some : {A B : Type 0} (f : A → B) (o : Option A) (y : B) → option_map f o ≡ Some y → (x : A) × (o ≡ Some x) × (f x ≡ y)
map_some f None y e = absurd (none-some y e)
map_some f (Some x) y e = (x, refl, same_Some (f x) y e)

got_first : {X : Type 0} (xs ys : List X) (i : ℕ) (x : X) → slice_get xs i ≡ Some x → slice_get (xs ++ ys) i ≡ Some x
got_first [] ys i x e = absurd (none-some x e)
got_first (y ∷ xs) ys zero x e = e
got_first (y ∷ xs) ys (suc i) x e = got_first xs ys i x e

-- the steps of a vehicle's moves are those of its entries and then of its arrival
steps_are : (p : Plan) (t v : ℕ) → map (λ m. m.step) (moves_of v (trace_after p t)) ≡ entries_of (trace_after p t) v ++ option_to_list (arrival_of (trace_after p t) v)
unfolding entries_of arrival_of
steps_are p t v =
    let ms = moves_of v (trace_after p t) in
    ap (map (λ m. m.step)) (arrival_is_last p t v)
    ∙ map-append (λ m. m.step) (filter is_entry ms) (option_to_list (find (λ m. not (is_entry m)) ms))
    ∙ ap (λ L. map (λ m. m.step) (filter is_entry ms) ++ L) (one_step (find (λ m. not (is_entry m)) ms))
  where
    one_step : (o : Option Move) → map (λ m. m.step) (option_to_list o) ≡ option_to_list (step_in o)
    one_step None = refl
    one_step (Some m) = refl

-- entry i of a vehicle is its move i
entry_is : (p : Plan) (t v i s : ℕ) → slice_get (entries_of (trace_after p t) v) i ≡ Some s → (m : Move) × (slice_get (moves_of v (trace_after p t)) i ≡ Some m) × (m.step ≡ s)
unfolding entries_of
entry_is p t v i s e =
    let ms = moves_of v (trace_after p t) in
    let x = map_some (λ m. m.step) (slice_get (filter is_entry ms) i) s (sym (slice_get-map (λ m. m.step) (filter is_entry ms) i) ∙ e) in
    (x.0, sym (ap (λ L. slice_get L i) (sym (arrival_is_last p t v))) ∙ got_first (filter is_entry ms) (option_to_list (find (λ m. not (is_entry m)) ms)) i x.0 (x.1), x.2)

-- the journey of a vehicle among all
pub journey_is : (p : Plan) (v : ℕ) (j : Journey) → slice_get (journeys_of p) v ≡ Some j → j ≡ journey_of p v
unfolding journeys_of
journey_is p v j e =
    let x = map_some (journey_of p) (slice_get (vehicles_of p) v) j (sym (slice_get-map (journey_of p) (vehicles_of p) v) ∙ e) in
    sym (x.2) ∙ ap (journey_of p) (got_number (vehicle_count p) v x.0 (x.1))

-- each vehicle has a journey
pub journeys_many : (p : Plan) → length (journeys_of p) ≡ length p.trips
unfolding journeys_of
journeys_many p = length-map (vehicles_of p) (journey_of p) ∙ length-range_with_len 0 (length p.trips)

-- what is found among moves that are no entries is none
pub found_fails : (L : List Move) (m : Move) → find (λ x. not (is_entry x)) L ≡ Some m → is_entry m ≡ false
found_fails [] m e = cc
found_fails (x ∷ L) m e = found_step (is_entry x) refl e (found_fails L m)
  where
    found_step : (b : Bool) → b ≡ is_entry x → cond (not b) (Some x) (find (λ y. not (is_entry y)) L) ≡ Some m → (find (λ y. not (is_entry y)) L ≡ Some m → is_entry m ≡ false) → is_entry m ≡ false
    found_step true r e ih = ih e
    found_step false r e ih = let q : x ≡ m = cc in subst (λ y. is_entry y ≡ false) q (sym r)

opened : (p : Plan) (v : ℕ) → journey_of p v ≡ record { entries = entries_of (trace_after p p.horizon) v; arrival = arrival_of (trace_after p p.horizon) v }
unfolding journey_of
opened p v = refl

-- the end of a visit by the move that follows it
visit_end-is : (p : Plan) (v i : ℕ) (m : Move) → slice_get (journeys_of p) v ≡ Some (journey_of p v) → slice_get (moves_of v (trace_after p p.horizon)) (suc i) ≡ Some m → visit_ends (journeys_of p) v i ≡ Some m.step
visit_end-is p v i m there e =
    rw (there, opened p v)
    (ap (λ L. slice_get L (suc i)) (sym (steps_are p p.horizon v)) ∙ slice_get-map (λ x. x.step) (moves_of v (trace_after p p.horizon)) (suc i) ∙ ap (option_map (λ x. x.step)) e)

-- a visit that begins is a move onto the link of the route
begun : (p : Plan) (v i a : ℕ) → visit_begins (journeys_of p) v i ≡ Some a
    → (slice_get (journeys_of p) v ≡ Some (journey_of p v)) × ((m : Move) × (slice_get (moves_of v (trace_after p p.horizon)) i ≡ Some m) × (m.step ≡ a))
begun p v i a e =
    option_and_then_some (λ j. slice_get j.entries i) (slice_get (journeys_of p) v) a e
    (λ j there at. let q = journey_is p v j there in (there ∙ ap Some q, entry_is p p.horizon v i a (subst (λ x. slice_get x.entries i ≡ Some a) (q ∙ opened p v) at)))

-- one that ends is followed by a move
ended : (p : Plan) (v i a : ℕ) → visit_ends (journeys_of p) v i ≡ Some a → (m : Move) × (slice_get (moves_of v (trace_after p p.horizon)) (suc i) ≡ Some m) × (m.step ≡ a)
ended p v i a e =
    option_and_then_some (λ j. slice_get (j.entries ++ option_to_list j.arrival) (suc i)) (slice_get (journeys_of p) v) a e
    (λ j there at. next_move_is j (journey_is p v j there ∙ opened p v) at)
  where
    next_move_is : (j : Journey) → j ≡ record { entries = entries_of (trace_after p p.horizon) v; arrival = arrival_of (trace_after p p.horizon) v } → slice_get (j.entries ++ option_to_list j.arrival) (suc i) ≡ Some a
        → (m : Move) × (slice_get (moves_of v (trace_after p p.horizon)) (suc i) ≡ Some m) × (m.step ≡ a)
    next_move_is j q at =
        map_some (λ m. m.step) (slice_get (moves_of v (trace_after p p.horizon)) (suc i)) a
        (sym (slice_get-map (λ m. m.step) (moves_of v (trace_after p p.horizon)) (suc i)) ∙ ap (λ L. slice_get L (suc i)) (steps_are p p.horizon v) ∙ subst (λ x. slice_get (x.entries ++ option_to_list x.arrival) (suc i) ≡ Some a) q at)

-- a move that follows the route leads onto its link
onto_link : (p : Plan) (t v i l : ℕ) (m : Move) → slice_get (moves_of v (trace_after p t)) i ≡ Some m → slice_get (route_of p v) i ≡ Some l → leads_to l m ≡ true
onto_link p t v i l m e r = rw (routes_are_followed p t v i m e, r) (eq-eqb l l refl)

pub journeys_end_in_order : JourneysEndInOrder
journeys_end_in_order p u v i j l a b end on_u on_v begins_u begins_v before ends =
    let x = begun p u i a begins_u in
    let y = begun p v j b begins_v in
    let z = ended p v j end ends in
    let mine : (x.1.0).step ≡ a = x.1.2 in
    let other : (y.1.0).step ≡ b = y.1.2 in
    let last : (z.0).step ≡ end = z.2 in
    let d = visits_end_in_order p p.horizon u v i j l (x.1.0) (y.1.0) (z.0) (x.1.1) (y.1.1) (onto_link p p.horizon u i l (x.1.0) (x.1.1) on_u) (onto_link p p.horizon v j l (y.1.0) (y.1.1) on_v) (omega (arith, before, mine, other)) (z.1) in
    let sooner : (d.0).step ≤ (z.0).step = d.2 in
    ((d.0).step, visit_end-is p u i (d.0) (x.0) (d.1), omega (arith, sooner, last))
