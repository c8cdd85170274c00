-- Where the arrived riders of a loading are.
use Rattle.std.proofs.lemmas.Bool.{and_parts, cases_Bool, false_from_ne_true}
use Rattle.std.specs.List.{flat_map, last_or, list_any}
use Rattle.std.specs.Prelude.{filter, nat_eq, slice_get}
use Rattle.std.proofs.Common.{◌≡◌, ◌≢◌, ℕ, zero, suc, ◌<◌, Bool, true, false, cond, ◌||◌, not, List, [], ◌∷◌, ◌++◌, length, refl, ap, sym, ◌∙◌, subst, arith, append-nil, Option, Some, None, ◌⊎◌, inl, inr}
use Rattle.std.proofs.lemmas.Bool.Decides.{eqb_tells}
use Rattle.std.proofs.lemmas.List.Elements.{filter-append}
use Rattle.std.proofs.Math.Dec.{eqb}
use Rattle.dta_model.specs.declared.plan.Plan.{Plan}
use Rattle.dta_model.specs.Loading.{after_step, is_onto, step_moves, trace_after}
use Rattle.dta_model.specs.NodeMoves.{node_moves}
use Rattle.dta_model.specs.Plans.{all_nodes, first_link, link_at, route_of}
use Rattle.dta_model.specs.Riders.{RiderState, rider_at, riders}
use Rattle.cell_stages.specs.Stages.{arrived_before, arriving}
use Rattle.dta_model.specs.State.{leads_out}
use Rattle.dta_model.specs.Trace.{Arrived, Move, Onto, Target, has_moved, is_of, last_move, moves_of}
use Rattle.dta_model.proofs.Fuel.{last_in, one-step}
use Rattle.cell_stages.proofs.Gathering.{elsewhere, mover_at, own-at, rider-like}
use Rattle.dta_model.proofs.NoMoves.{no-moves}
use Rattle.dta_model.proofs.Places.{node_by, node_first, node_of, node_to}
use Rattle.dta_model.proofs.Pushes.{moves_of-append}
use Rattle.dta_model.proofs.Queues.{absent, distinct, vehicles}
use Rattle.dta_model.proofs.Riders.{last_move_is, last_push}
use Rattle.dta_model.proofs.Flat.{filter-flat, flat_one}
use Rattle.cell_stages.proofs.Spread.{flat_nothing, flat_same, only_later}
use Rattle.dta_model.proofs.Standing.{no-last}
use Rattle.dta_model.proofs.Steady.{IsSteady}
use Rattle.dta_model.proofs.Totals.{InTable, place_in, trace-in}

-- the riders of one vehicle among those of many
pub filter-riders : (p : Plan) (T : List Move) (v : ℕ) (xs : List ℕ) → filter (λ r. nat_eq r.number v) (riders p T xs) ≡ riders p T (filter (λ w. nat_eq w v) xs)
unfolding rider_at
filter-riders p T v [] = refl
filter-riders p T v (x ∷ xs) = number_step (eqb x v) (filter-riders p T v xs)
  where
    number_step : (b : Bool) → filter (λ r. nat_eq r.number v) (riders p T xs) ≡ riders p T (filter (λ w. nat_eq w v) xs)
        → cond b (rider_at p T x ∷ filter (λ r. nat_eq r.number v) (riders p T xs)) (filter (λ r. nat_eq r.number v) (riders p T xs)) ≡ riders p T (cond b (x ∷ filter (λ w. nat_eq w v) xs) (filter (λ w. nat_eq w v) xs))
    number_step true ih = ap (λ L. rider_at p T x ∷ L) ih
    number_step false ih = ih

-- the moves of one vehicle among those that pass a test
filter-vehicles : (q : Move → Bool) (v : ℕ) (M : List Move) → filter (λ w. nat_eq w v) (vehicles (filter q M)) ≡ vehicles (filter q (moves_of v M))
unfolding moves_of
filter-vehicles q v [] = refl
filter-vehicles q v (m ∷ M) = vehicle_step (q m) (eqb m.vehicle v) refl refl (filter-vehicles q v M)
  where
    vehicle_step : (a b : Bool) → a ≡ q m → b ≡ eqb m.vehicle v → filter (λ w. nat_eq w v) (vehicles (filter q M)) ≡ vehicles (filter q (filter (is_of v) M))
        → filter (λ w. nat_eq w v) (vehicles (cond a (m ∷ filter q M) (filter q M))) ≡ vehicles (filter q (cond b (m ∷ filter (is_of v) M) (filter (is_of v) M)))
    vehicle_step true true r s ih = rw (← r, ← s) (ap (λ L. m.vehicle ∷ L) ih)
    vehicle_step true false r s ih = rw (← s) ih
    vehicle_step false true r s ih = rw (← r) ih
    vehicle_step false false r s ih = ih

-- where no vehicle moves twice, one moves once or not at all
abbrev OnceOrNot : ℕ → List Move → Type 0
OnceOrNot v L = (L ≡ []) ⊎ ((m : Move) × (L ≡ m ∷ []) × (m.vehicle ≡ v))

absent_moves : (v : ℕ) (M : List Move) → absent v (vehicles M) ≡ true → moves_of v M ≡ []
unfolding moves_of
absent_moves v [] a = refl
absent_moves v (m ∷ M) a = absent_step (eqb m.vehicle v) a (absent_moves v M)
  where
    absent_step : (b : Bool) → not (b || list_any (λ y. eqb y v) (vehicles M)) ≡ true → (absent v (vehicles M) ≡ true → filter (is_of v) M ≡ []) → cond b (m ∷ filter (is_of v) M) (filter (is_of v) M) ≡ []
    absent_step true e ih = cc
    absent_step false e ih = ih e

once_moves : (v : ℕ) (M : List Move) → distinct (vehicles M) ≡ true → OnceOrNot v (moves_of v M)
unfolding moves_of
once_moves v [] d = inl refl
once_moves v (m ∷ M) d =
    let parts = and_parts (absent m.vehicle (vehicles M)) (distinct (vehicles M)) d in
    once_step (eqb_tells m.vehicle v) parts.0 (once_moves v M parts.1)
  where
    once_step : ((eqb m.vehicle v ≡ true) × (m.vehicle ≡ v)) ⊎ ((eqb m.vehicle v ≡ false) × (m.vehicle ≢ v)) → absent m.vehicle (vehicles M) ≡ true → OnceOrNot v (filter (is_of v) M) → OnceOrNot v (filter (is_of v) (m ∷ M))
    once_step (inl (s, same)) a ih = inr (m, rw s (ap (λ L. m ∷ L) (subst (λ w. filter (is_of w) M ≡ []) same (absent_moves m.vehicle M a))), same)
    once_step (inr (s, other)) a ih = rw s ih

-- a vehicle's moves tell its last one
pub last-like : (T U : List Move) (v : ℕ) → moves_of v T ≡ moves_of v U → last_move v T ≡ last_move v U
last-like T U v e = last_move_is v T ∙ ap (last_or None) e ∙ sym (last_move_is v U)

-- the node at which a vehicle moves next is one of the table
pub node_there : (p : Plan) → IsSteady p → (t v n : ℕ) → node_of p (trace_after p t) v ≡ Some n → n < length p.net.nodes
unfolding node_of first_link
node_there p sound t v n e = there_step (cases_Bool (has_moved v (trace_after p t)))
  where
    some_node : (a b : ℕ) → Some a ≡ Some b → a ≡ b
    some_node a b h = cc

    by_target : (x : Move) (y : Target) → x.target ≡ y → InTable (length p.net.links) x → node_to p x.target ≡ Some n → n < length p.net.nodes
    by_target x (Onto l) s inside h =
        let q : Some (link_at p l).to.0 ≡ Some n = sym (ap (node_to p) s) ∙ h in
        subst (λ k. k < length p.net.nodes) (some_node (link_at p l).to.0 n q) (sound.ends l (inside l s)).1
    by_target x Arrived s inside h = let q : None ≡ Some n = sym (ap (node_to p) s) ∙ h in cc

    by_first : (o : Option ℕ) → slice_get (route_of p v) 0 ≡ o → node_first p o ≡ Some n → n < length p.net.nodes
    by_first None r h = cc
    by_first (Some b) r h =
        subst (λ k. k < length p.net.nodes) (some_node (link_at p b).from.0 n h)
        (sound.ends b (place_in (λ l. l < length p.net.links) (route_of p v) 0 b (sound.routes v) r)).0

    there_step : (has_moved v (trace_after p t) ≡ true) ⊎ (has_moved v (trace_after p t) ≡ false) → n < length p.net.nodes
    there_step (inl moved) =
        let x = last_in (InTable (length p.net.links)) v (trace_after p t) [] (trace-in p sound t) moved in
        by_target x.0 (x.0).target refl x.2 (ap (λ o. node_by p o (first_link p v)) (sym x.1) ∙ e)
    there_step (inr none) = by_first (slice_get (route_of p v) 0) refl (sym (ap (λ o. node_by p o (first_link p v)) (no-last v (trace_after p t) none)) ∙ e)

-- who has arrived has no node
gone : (p : Plan) (T : List Move) (v : ℕ) → leads_out (last_move v T) ≡ true → node_of p T v ≡ None
unfolding node_of
gone p T v h = gone_step (last_move v T) h
  where
    by_target : (x : Move) (y : Target) → x.target ≡ y → not (is_onto y) ≡ true → node_to p y ≡ None
    by_target x (Onto l) s h = cc
    by_target x Arrived s h = refl

    gone_step : (o : Option Move) → leads_out o ≡ true → node_by p o (first_link p v) ≡ None
    gone_step None h = cc
    gone_step (Some x) h = by_target x x.target refl h

none_yet : (v : ℕ) → has_moved v [] ≡ false
unfolding has_moved
none_yet v = refl

module _ (p : Plan) (sound : IsSteady p) (t v : ℕ) (T : List Move) (there : (n : ℕ) → node_of p T v ≡ Some n → n < length p.net.nodes) (A : ℕ → List RiderState) where
  abbrev mine : RiderState → Bool
  mine r = nat_eq r.number v

  -- those of a node's moves that let v arrive
  abbrev new : ℕ → List RiderState
  new n = filter mine (riders p (T ++ node_moves p n t T) (arriving (node_moves p n t T)))

  abbrev Total : List Move → List RiderState → Type 0
  Total U all = all ≡ cond (leads_out (last_move v U)) (rider_at p U v ∷ []) []

  new_is : (n : ℕ) → new n ≡ riders p (T ++ node_moves p n t T) (vehicles (filter (λ m. not (is_onto m.target)) (moves_of v (node_moves p n t T))))
  unfolding arriving
  new_is n = filter-riders p (T ++ node_moves p n t T) v (arriving (node_moves p n t T)) ∙ ap (riders p (T ++ node_moves p n t T)) (filter-vehicles (λ m. not (is_onto m.target)) v (node_moves p n t T))

  none_new : (n : ℕ) → moves_of v (node_moves p n t T) ≡ [] → new n ≡ []
  none_new n e = new_is n ∙ ap (λ L. riders p (T ++ node_moves p n t T) (vehicles (filter (λ m. not (is_onto m.target)) L))) e

  same_total : (S : List Move) (all : List RiderState) → moves_of v S ≡ [] → Total T all → Total (T ++ S) all
  same_total S all e total =
      let same : moves_of v (T ++ S) ≡ moves_of v T = moves_of-append v T S ∙ ap (λ L. moves_of v T ++ L) e ∙ append-nil (moves_of v T) in
      total ∙ sym (rw (last-like (T ++ S) T v same, rider-like p (T ++ S) T v same) refl)

  -- where the vehicle doesn't move in the step
  unmoved : ((n : ℕ) → moves_of v (node_moves p n t T) ≡ []) → Total T (flat_map (λ n. filter mine (A n)) (all_nodes p))
      → Total (T ++ step_moves p t T (all_nodes p)) (flat_map (λ n. filter mine (A n) ++ new n) (all_nodes p))
  unfolding moves_of
  unmoved none total =
      flat_same (λ n. filter mine (A n) ++ new n) (λ n. filter mine (A n)) (all_nodes p) (λ n. ap (λ L. filter mine (A n) ++ L) (none_new n (none n)) ∙ append-nil (filter mine (A n)))
      ∙ same_total (step_moves p t T (all_nodes p)) (flat_map (λ n. filter mine (A n)) (all_nodes p))
      (filter-flat (is_of v) (λ n. node_moves p n t T) (all_nodes p) ∙ flat_nothing (λ n. moves_of v (node_moves p n t T)) (all_nodes p) none) total

  -- where it may move, at its node
  module _ (n : ℕ) (here : node_of p T v ≡ Some n) (not_out : leads_out (last_move v T) ≡ false) where
    others : (a : ℕ) → a ≢ n → new a ≡ []
    others a other = none_new a (no-moves v (node_moves p a t T) (elsewhere p t T n a v here other))

    alone : Total T (flat_map (λ a. filter mine (A a)) (all_nodes p)) → flat_map (λ a. filter mine (A a) ++ new a) (all_nodes p) ≡ new n
    alone total =
        only_later (λ a. filter mine (A a)) new (all_nodes p) (total ∙ rw not_out refl)
        ∙ flat_one new (length p.net.nodes) 0 n (omega arith) (let b = there n here in omega (arith, b)) others

    own : moves_of v (step_moves p t T (all_nodes p)) ≡ moves_of v (node_moves p n t T)
    own = own-at p t T n v here (there n here)

    arrives : (m : Move) → moves_of v (node_moves p n t T) ≡ m ∷ [] → m.vehicle ≡ v → Total (T ++ step_moves p t T (all_nodes p)) (new n)
    arrives m e same =
        let last : last_move v (T ++ step_moves p t T (all_nodes p)) ≡ Some m =
        last_move_is v (T ++ step_moves p t T (all_nodes p)) ∙ ap (last_or None) (moves_of-append v T (step_moves p t T (all_nodes p)) ∙ ap (λ L. moves_of v T ++ L) (own ∙ e)) ∙ last_push None (moves_of v T) m
        in
        let rider : rider_at p (T ++ node_moves p n t T) v ≡ rider_at p (T ++ step_moves p t T (all_nodes p)) v =
        rider-like p (T ++ node_moves p n t T) (T ++ step_moves p t T (all_nodes p)) v (moves_of-append v T (node_moves p n t T) ∙ ap (λ L. moves_of v T ++ L) (sym own) ∙ sym (moves_of-append v T (step_moves p t T (all_nodes p))))
        in
        new_is n ∙ ap (λ L. riders p (T ++ node_moves p n t T) (vehicles (filter (λ x. not (is_onto x.target)) L))) e
        ∙ rw (last, ← rider, ← same) (out_step (not (is_onto m.target)))
      where
        out_step : (b : Bool) → riders p (T ++ node_moves p n t T) (vehicles (cond b (m ∷ []) [])) ≡ cond b (rider_at p (T ++ node_moves p n t T) m.vehicle ∷ []) []
        out_step true = refl
        out_step false = refl

    moving : Total T (flat_map (λ a. filter mine (A a)) (all_nodes p)) → Total (T ++ step_moves p t T (all_nodes p)) (flat_map (λ a. filter mine (A a) ++ new a) (all_nodes p))
    moving total = alone total ∙ moving_step (once_moves v (node_moves p n t T) (one-step p sound n t T).each)
      where
        moving_step : OnceOrNot v (moves_of v (node_moves p n t T)) → Total (T ++ step_moves p t T (all_nodes p)) (new n)
        moving_step (inl e) = none_new n e ∙ same_total (step_moves p t T (all_nodes p)) [] (own ∙ e) (rw not_out refl)
        moving_step (inr (m, e, same)) = arrives m e same

  gone_total : node_of p T v ≡ None → Total T (flat_map (λ n. filter mine (A n)) (all_nodes p)) → Total (T ++ step_moves p t T (all_nodes p)) (flat_map (λ n. filter mine (A n) ++ new n) (all_nodes p))
  gone_total nowhere total = unmoved (λ n. no-moves v (node_moves p n t T) (false_from_ne_true (has_moved v (node_moves p n t T)) (λ e. clash n (sym nowhere ∙ mover_at p t T n v e)))) total
    where
      clash : (n : ℕ) → None ≡ Some n → ⊥
      clash n e = cc

  pub next_total : Total T (flat_map (λ n. filter mine (A n)) (all_nodes p)) → Total (T ++ step_moves p t T (all_nodes p)) (flat_map (λ n. filter mine (A n) ++ new n) (all_nodes p))
  next_total total = out_step (cases_Bool (leads_out (last_move v T))) (node_of p T v) refl
    where
      out_step : (leads_out (last_move v T) ≡ true) ⊎ (leads_out (last_move v T) ≡ false) → (o : Option ℕ) → node_of p T v ≡ o
          → Total (T ++ step_moves p t T (all_nodes p)) (flat_map (λ n. filter mine (A n) ++ new n) (all_nodes p))
      out_step (inl out) o e = gone_total (gone p T v out) total
      out_step (inr not_out) None e = gone_total e total
      out_step (inr not_out) (Some n) e = moving n e not_out total

-- the riders of vehicle v that arrived at a node in the first steps
abbrev pub arrived_of : Plan → ℕ → ℕ → ℕ → List RiderState
arrived_of p t v n = filter (λ r. nat_eq r.number v) (arrived_before p n t)

-- all nodes together have one where the vehicle has arrived, and none else
pub arrived_total : (p : Plan) → IsSteady p → (t v : ℕ) → flat_map (arrived_of p t v) (all_nodes p) ≡ cond (leads_out (last_move v (trace_after p t))) (rider_at p (trace_after p t) v ∷ []) []
unfolding arrived_before trace_after after_step
arrived_total p sound zero v = flat_nothing (λ n. []) (all_nodes p) (λ n. refl) ∙ sym (rw (no-last v [] (none_yet v)) refl)
arrived_total p sound (suc t) v =
    let T = trace_after p t in
    flat_same (arrived_of p (suc t) v) (λ n. filter (λ r. nat_eq r.number v) (arrived_before p n t) ++ filter (λ r. nat_eq r.number v) (riders p (T ++ node_moves p n t T) (arriving (node_moves p n t T)))) (all_nodes p)
    (λ n. filter-append (λ r. nat_eq r.number v) (arrived_before p n t) (riders p (T ++ node_moves p n t T) (arriving (node_moves p n t T))))
    ∙ next_total p sound t v T (node_there p sound t v) (λ n. arrived_before p n t) (arrived_total p sound t v)
