-- In a step a vehicle moves once at most, so the fuel of a node's moves is enough.
use Rattle.std.specs.List.{list_any, flat_map}
use Rattle.std.specs.Prelude.{slice_get, All, nat_lt, ◌≢◌}
use Rattle.std.proofs.Common.{◌≡◌, ℕ, zero, suc, ◌+◌, ◌<◌, ◌≤◌, Bool, true, false, cond, ◌||◌, not, List, [], ◌∷◌, ◌++◌, length, refl, ap, sym, ◌∙◌, subst, arith, Option, Some, None, ◌⊎◌, inl, inr, append_assoc}
use Rattle.std.proofs.lemmas.Bool.{and_from, ne_eqb, and_parts, cases_Bool, not-true}
use Rattle.std.proofs.lemmas.Bool.Decides.{nat_tests, eqb_tells}
use Rattle.std.proofs.lemmas.Grind.{common_steps}
use Rattle.std.proofs.lemmas.List.{map-append, length-map, length-append}
use Rattle.std.proofs.lemmas.List.Folds.{list_any-append}
use Rattle.std.proofs.lemmas.List.Elements.{All-head, All-tail, All-push, All-nil, All-append, All-weaker, All-cons, All-map}
use Rattle.std.proofs.Math.Dec.{eqb}
use Rattle.dta_model.specs.declared.plan.Plan.{Plan}
use Rattle.dta_model.specs.Laws.{NoMoveIsLeft}
use Rattle.dta_model.specs.Loading.{after_step, step_moves, trace_after}
use Rattle.dta_model.specs.NodeMoves.{grow, grown, is_first, may_move, may_turn, next_move, node_moves, turn_test, waits_for}
use Rattle.dta_model.specs.Plans.{all_nodes, departure_of, first_link, link_at, route_in, route_of, turn, vehicle_count}
use Rattle.dta_model.proofs.Steady.{IsSteady, steady_of}
use Rattle.dta_model.specs.State.{is_due, is_routed, some_route}
use Rattle.dta_model.specs.Trace.{Arrived, Move, Onto, Target, has_moved, is_of, last_move, queue_of}
use Rattle.net_core.specs.declared.rows.Turn.{Turn}
use Rattle.net_core.specs.declared.rows.LinkNo.{LinkNo}
use Rattle.dta_model.proofs.Queues.{vehicles, absent, distinct, without, without-absent}
use Rattle.dta_model.proofs.Pushes.{last_move-still, last_move-own, has_moved-append}
use Rattle.dta_model.proofs.Standing.{in-queue, no-last}
use Rattle.dta_model.proofs.NextMoves.{Kind, head, waiting, next_cases, moves-keep}
use Rattle.dta_model.proofs.Places.{of_mover}

-- who moved has a last move, and it is one of those
pub last_in : (P : Move → Type 0) (v : ℕ) (M T : List Move) → All P M → has_moved v M ≡ true → (x : Move) × (last_move v (T ++ M) ≡ Some x) × P x
unfolding has_moved
last_in P v [] T all h = cc
last_in P v (m ∷ M) T all h =
    in_step (cases_Bool (list_any (is_of v) M)) (eqb_tells m.vehicle v) (last_in P v M (T ++ m ∷ []) (All-tail P m M all))
  where
    regrouped : (x : Move) → last_move v ((T ++ m ∷ []) ++ M) ≡ Some x → last_move v (T ++ m ∷ M) ≡ Some x
    regrouped x e = ap (λ L. last_move v L) (sym (append_assoc T (m ∷ []) M)) ∙ e

    in_step : (list_any (is_of v) M ≡ true) ⊎ (list_any (is_of v) M ≡ false) → ((eqb m.vehicle v ≡ true) × (m.vehicle ≡ v)) ⊎ ((eqb m.vehicle v ≡ false) × (m.vehicle ≢ v))
        → (list_any (is_of v) M ≡ true → (x : Move) × (last_move v ((T ++ m ∷ []) ++ M) ≡ Some x) × P x) → (x : Move) × (last_move v (T ++ m ∷ M) ≡ Some x) × P x
    in_step (inl later) own ih = let y = ih later in (y.0, regrouped y.0 y.1, y.2)
    in_step (inr none) (inl (s, same)) ih = (m, regrouped m (last_move-still v M (T ++ m ∷ []) none ∙ subst (λ w. last_move w (T ++ m ∷ []) ≡ Some m) same (last_move-own T m)), All-head P m M all)
    in_step (inr none) (inr (s, other)) ih = let e : true ≡ false = sym h ∙ rw (s, none) refl in cc

pub has_moved-if : (v : ℕ) (T : List Move) (x : Move) → last_move v T ≡ Some x → has_moved v T ≡ true
has_moved-if v T x e = if_step (cases_Bool (has_moved v T))
  where
    if_step : (has_moved v T ≡ true) ⊎ (has_moved v T ≡ false) → has_moved v T ≡ true
    if_step (inl h) = h
    if_step (inr h) = let clash : Some x ≡ None = sym e ∙ no-last v T h in cc

-- what is true of each move of the first steps: its vehicle is one of the plan, and due
pub record Lawful (p : Plan) (t : ℕ) (m : Move) : Type 0 where
  pub below : m.vehicle < vehicle_count p
  pub due : is_due p t m.vehicle ≡ true

due_later : (p : Plan) (t v : ℕ) → is_due p t v ≡ true → is_due p (suc t) v ≡ true
unfolding is_due
due_later p t v h =
    let parts = and_parts (is_routed p v) (nat_lt (departure_of p v) t) h in
    and_from (is_routed p v) (nat_lt (departure_of p v) (suc t)) parts.0 (let e = parts.1 in grind (arith, nat_tests))

pub later : (p : Plan) (t : ℕ) (T : List Move) → All (Lawful p t) T → All (Lawful p (suc t)) T
later p t T all = All-weaker (Lawful p t) (Lawful p (suc t)) (λ m a. record { below = a.below; due = due_later p t m.vehicle a.due }) T all

routed_first : (o : Option (Option (List LinkNo))) (b : ℕ) → is_first b (slice_get (route_in o) 0) ≡ true → some_route o ≡ true
routed_first None b h = cc
routed_first (Some None) b h = cc
routed_first (Some (Some r)) b h = refl

module _ (p : Plan) (n t : ℕ) (T0 : List Move) (before : All (Lawful p t) T0) where
  of_queue : (M : List Move) (l i v : ℕ) → All (Lawful p (suc t)) M → slice_get (queue_of l (T0 ++ M)) i ≡ Some v → (v < vehicle_count p) × (is_due p (suc t) v ≡ true)
  of_queue M l i v all e =
      let x = in-queue l (T0 ++ M) i v e in
      of_mover (λ w. (w < vehicle_count p) × (is_due p (suc t) w ≡ true)) v (T0 ++ M)
      (All-weaker (Lawful p (suc t)) (λ m. (m.vehicle < vehicle_count p) × (is_due p (suc t) m.vehicle ≡ true)) (λ m a. (a.below, a.due)) (T0 ++ M) (All-append (Lawful p (suc t)) T0 M (later p t T0 before) all))
      (has_moved-if v (T0 ++ M) (x.0) (x.1))

  pub kind_lawful : (M : List Move) (m : Move) → All (Lawful p (suc t)) M → Kind p n t T0 M m → Lawful p (suc t) m
  unfolding waits_for is_due is_routed first_link route_of
  kind_lawful M m all (head l into h) = let q = of_queue M l 0 m.vehicle all h.first in record { below = q.0; due = q.1 }
  kind_lawful M m all (waiting b out h) =
      let parts = and_parts _ _ h.waits in
      let more = and_parts _ _ parts.0 in
      record { below = h.below; due = and_from (some_route (slice_get p.routes m.vehicle)) (nat_lt (departure_of p m.vehicle) (suc t)) (routed_first (slice_get p.routes m.vehicle) b more.0) (let e = more.1 in grind (arith, nat_tests)) }

  pub node-lawful : All (Lawful p (suc t)) (node_moves p n t T0)
  node-lawful = moves-keep p n t T0 (λ M. All (Lawful p (suc t)) M) (λ M m all e. All-push (Lawful p (suc t)) M m all (kind_lawful M m all (next_cases p n t T0 M m e))) (All-nil (Lawful p (suc t)))

pub All-flat : (P : Move → Type 0) (f : ℕ → List Move) (xs : List ℕ) → ((x : ℕ) → All P (f x)) → All P (flat_map f xs)
All-flat P f [] all = All-nil P
All-flat P f (x ∷ xs) all = All-append P (f x) (flat_map f xs) (all x) (All-flat P f xs all)

-- each move of the first steps is lawful
pub trace-lawful : (p : Plan) (t : ℕ) → All (Lawful p t) (trace_after p t)
unfolding trace_after after_step
trace-lawful p zero = All-nil (Lawful p 0)
trace-lawful p (suc t) =
    let T = trace_after p t in
    let before = trace-lawful p t in
    All-append (Lawful p (suc t)) T (step_moves p t T (all_nodes p)) (later p t T before) (All-flat (Lawful p (suc t)) (λ n. node_moves p n t T) (all_nodes p) (λ n. node-lawful p n t T before))

-- distinct numbers below n are n at most
pub absent_without : (v w : ℕ) (xs : List ℕ) → absent w xs ≡ true → absent w (without v xs) ≡ true
absent_without v w [] h = refl
absent_without v w (x ∷ xs) h = aw_step (eqb x v) (eqb x w) refl h (absent_without v w xs)
  where
    aw_step : (b c : Bool) → c ≡ eqb x w → not (c || list_any (λ y. eqb y w) xs) ≡ true → (absent w xs ≡ true → absent w (without v xs) ≡ true) → absent w (cond (not b) (x ∷ without v xs) (without v xs)) ≡ true
    aw_step true c r e ih = ih (rest_of c _ e)
      where
        rest_of : (c d : Bool) → not (c || d) ≡ true → not d ≡ true
        rest_of true d e = cc
        rest_of false d e = e
    aw_step false true r e ih = cc
    aw_step false false r e ih = rw (← r) (ih e)

distinct_without : (v : ℕ) (xs : List ℕ) → distinct xs ≡ true → distinct (without v xs) ≡ true
distinct_without v [] h = refl
distinct_without v (x ∷ xs) h = let parts = and_parts (absent x xs) (distinct xs) h in dw_step (eqb x v) (absent_without v x xs parts.0) (distinct_without v xs parts.1)
  where
    dw_step : (b : Bool) → absent x (without v xs) ≡ true → distinct (without v xs) ≡ true → distinct (cond (not b) (x ∷ without v xs) (without v xs)) ≡ true
    dw_step true a d = d
    dw_step false a d = and_from _ _ a d

length_without : (v : ℕ) (xs : List ℕ) → distinct xs ≡ true → length xs ≤ length (without v xs) + 1
length_without v [] h = omega arith
length_without v (x ∷ xs) h = let parts = and_parts (absent x xs) (distinct xs) h in lw_step (eqb_tells x v) parts.0 (length_without v xs parts.1)
  where
    lw_step : ((eqb x v ≡ true) × (x ≡ v)) ⊎ ((eqb x v ≡ false) × (x ≢ v)) → absent x xs ≡ true → length xs ≤ length (without v xs) + 1 → length (x ∷ xs) ≤ length (without v (x ∷ xs)) + 1
    lw_step (inl (s, same)) a ih = rw s (rw (without-absent v xs (subst (λ w. absent w xs ≡ true) same a)) (omega arith))
    lw_step (inr (s, other)) a ih = rw s (omega (arith, ih))

all_without : (n : ℕ) (xs : List ℕ) → All (λ x. x < suc n) xs → All (λ x. x < n) (without n xs)
all_without n [] h = All-nil (λ x. x < n)
all_without n (x ∷ xs) h = al_step (eqb_tells x n) (All-head (λ y. y < suc n) x xs h) (all_without n xs (All-tail (λ y. y < suc n) x xs h))
  where
    al_step : ((eqb x n ≡ true) × (x ≡ n)) ⊎ ((eqb x n ≡ false) × (x ≢ n)) → x < suc n → All (λ y. y < n) (without n xs) → All (λ y. y < n) (without n (x ∷ xs))
    al_step (inl (s, same)) l ih = rw s ih
    al_step (inr (s, other)) l ih = rw s (All-cons (λ y. y < n) x (without n xs) (omega (arith, l, other)) ih)

pub distinct_below : (n : ℕ) (xs : List ℕ) → distinct xs ≡ true → All (λ x. x < n) xs → length xs ≤ n
distinct_below zero [] d h = omega arith
distinct_below zero (x ∷ xs) d h = absurd (let l = All-head (λ y. y < 0) x xs h in omega (arith, l))
distinct_below (suc n) xs d h = omega (arith, length_without n xs d, distinct_below n (without n xs) (distinct_without n xs d) (all_without n xs h))

-- a list of moves that a node makes in one step: distinct vehicles of the plan, all in this step
pub record OneStep (p : Plan) (t : ℕ) (M : List Move) : Type 0 where
  pub each : distinct (vehicles M) ≡ true
  pub now : All (λ m. m.step ≡ t) M

distinct_push : (xs : List ℕ) (v : ℕ) → distinct xs ≡ true → absent v xs ≡ true → distinct (xs ++ v ∷ []) ≡ true
distinct_push [] v d a = refl
distinct_push (x ∷ xs) v d a = let parts = and_parts (absent x xs) (distinct xs) d in dp_step (list_any-append (λ y. eqb y x) xs (v ∷ [])) (eqb_tells x v) parts.0 (distinct_push xs v parts.1)
  where
    dp_step : list_any (λ y. eqb y x) (xs ++ v ∷ []) ≡ (list_any (λ y. eqb y x) xs || (eqb v x || false)) → ((eqb x v ≡ true) × (x ≡ v)) ⊎ ((eqb x v ≡ false) × (x ≢ v)) → absent x xs ≡ true → (absent v xs ≡ true → distinct (xs ++ v ∷ []) ≡ true) → distinct ((x ∷ xs) ++ v ∷ []) ≡ true
    dp_step e (inl (s, same)) b ih = let c : (not (eqb x v || list_any (λ y. eqb y v) xs)) ≡ true = a in let f : false ≡ true = sym (rw s refl) ∙ c in cc
    dp_step e (inr (s, other)) b ih = and_from _ _ (rw (e, ne_eqb v x (λ q. other (sym q))) (or_none_of _ b)) (ih (rest_absent _ _ a))
      where
        or_none_of : (c : Bool) → not c ≡ true → not (c || (false || false)) ≡ true
        or_none_of true h = cc
        or_none_of false h = refl

        rest_absent : (c d : Bool) → not (c || d) ≡ true → not d ≡ true
        rest_absent true d h = cc
        rest_absent false d h = h

absent_moved : (v : ℕ) (M : List Move) → has_moved v M ≡ false → absent v (vehicles M) ≡ true
unfolding has_moved
absent_moved v [] h = refl
absent_moved v (m ∷ M) h = am_step (eqb m.vehicle v) h (absent_moved v M)
  where
    am_step : (b : Bool) → (b || list_any (is_of v) M) ≡ false → (list_any (is_of v) M ≡ false → absent v (vehicles M) ≡ true) → not (b || list_any (λ y. eqb y v) (vehicles M)) ≡ true
    am_step true e ih = cc
    am_step false e ih = ih e

module _ (p : Plan) (sound : IsSteady p) (n t : ℕ) (T0 : List Move) where
  not_turning : (M : List Move) (l ready b : ℕ) → t < ready → may_turn p n t T0 M ready l b ≡ false
  unfolding may_turn
  not_turning M l ready b h = turn_step (turn p l b)
    where
      turn_step : (o : Option Turn) → turn_test p n t T0 M ready l b o ≡ false
      turn_step None = refl
      turn_step (Some w) = grind (arith, nat_tests)

  pub not_ready : (M : List Move) (l ready : ℕ) (x : Target) → t < ready → may_move p n t T0 M l ready x ≡ false
  unfolding may_move
  not_ready M l ready Arrived h = grind (arith, nat_tests)
  not_ready M l ready (Onto b) h = grind (arith, nat_tests, not_turning M l ready b h)

  -- the vehicle of a next move hasn't moved in the step
  new_one : (M : List Move) (m : Move) → All (λ x. x.step ≡ t) M → Kind p n t T0 M m → has_moved m.vehicle M ≡ false
  unfolding waits_for
  new_one M m all (head l into h) = new_step (cases_Bool (has_moved m.vehicle M))
    where
      some_move : (x y : Move) → Some x ≡ Some y → x ≡ y
      some_move x y e = cc

      new_step : (has_moved m.vehicle M ≡ true) ⊎ (has_moved m.vehicle M ≡ false) → has_moved m.vehicle M ≡ false
      new_step (inr e) = e
      new_step (inl e) =
          let x = last_in (λ y. y.step ≡ t) m.vehicle M T0 all e in
          let same : h.entry ≡ x.0 = some_move h.entry (x.0) (sym h.entered ∙ x.1) in
          let late : h.entry.step ≡ t = ap (λ y. y.step) same ∙ x.2 in
          let free = sound.free l in
          let clash : true ≡ false = sym h.may ∙ not_ready M l (h.entry.step + (link_at p l).free) m.target (omega (arith, late, free)) in
          cc
  new_one M m all (waiting b out h) =
      let parts = and_parts _ _ h.waits in
      right_false _ _ (sym (has_moved-append m.vehicle T0 M) ∙ not-true _ parts.1)
    where
      right_false : (b c : Bool) → (b || c) ≡ false → c ≡ false
      right_false true c h = cc
      right_false false c h = h

  kind_now : (M : List Move) (m : Move) → Kind p n t T0 M m → m.step ≡ t
  kind_now M m (head l into h) = h.now
  kind_now M m (waiting b out h) = h.now

  pub one_more : (M : List Move) (m : Move) → OneStep p t M → next_move p n t T0 M ≡ Some m → OneStep p t (M ++ m ∷ [])
  one_more M m one e =
      let k = next_cases p n t T0 M m e in
      record {
        each = ap (λ L. distinct L) (map-append (λ x. x.vehicle) M (m ∷ [])) ∙ distinct_push (vehicles M) m.vehicle one.each (absent_moved m.vehicle M (new_one M m one.now k));
        now = All-push (λ x. x.step ≡ t) M m one.now (kind_now M m k);
      }

  pub one-step : OneStep p t (node_moves p n t T0)
  one-step = moves-keep p n t T0 (OneStep p t) one_more (record { each = refl; now = All-nil (λ x. x.step ≡ t) })

  -- where a next move is left, the fuel was used up
  used_up : (fuel : ℕ) (M : List Move) (m : Move) → next_move p n t T0 (grown p n t T0 fuel M) ≡ Some m → length (grown p n t T0 fuel M) ≡ length M + fuel
  unfolding grown
  used_up zero M m h = omega arith
  used_up (suc fuel) M m h = used_step (next_move p n t T0 M) refl h (λ x. used_up fuel (M ++ x ∷ []) m)
    where
      used_step : (o : Option Move) → next_move p n t T0 M ≡ o → next_move p n t T0 (grow (grown p n t T0 fuel) M o) ≡ Some m → ((x : Move) → next_move p n t T0 (grown p n t T0 fuel (M ++ x ∷ [])) ≡ Some m → length (grown p n t T0 fuel (M ++ x ∷ [])) ≡ length (M ++ x ∷ []) + fuel) → length (grow (grown p n t T0 fuel) M o) ≡ length M + suc fuel
      used_step None e g ih = let clash : None ≡ Some m = sym e ∙ g in cc
      used_step (Some x) e g ih = let l = ih x g in grind (arith, common_steps)

  pub none_left : All (Lawful p t) T0 → next_move p n t T0 (node_moves p n t T0) ≡ None
  unfolding node_moves
  none_left before = none_step (next_move p n t T0 (grown p n t T0 (vehicle_count p) [])) refl
    where
      vehicles_below : (L : List Move) → All (Lawful p (suc t)) L → All (λ v. v < vehicle_count p) (vehicles L)
      vehicles_below L law = All-map (λ v. v < vehicle_count p) (λ m. m.vehicle) L (All-weaker (Lawful p (suc t)) (λ m. m.vehicle < vehicle_count p) (λ m a. a.below) L law)

      too_long : (M : List Move) (m : Move) → length M ≡ vehicle_count p → length (vehicles (M ++ m ∷ [])) ≤ vehicle_count p → ⊥
      too_long M m e h = let f = length-map (M ++ m ∷ []) (λ x. x.vehicle) in let g = length-append M (m ∷ []) in omega (arith, e, h, f, g)

      none_step : (o : Option Move) → next_move p n t T0 (grown p n t T0 (vehicle_count p) []) ≡ o → o ≡ None
      none_step None e = refl
      none_step (Some m) e =
          let M = grown p n t T0 (vehicle_count p) [] in
          let long : length M ≡ vehicle_count p = used_up (vehicle_count p) [] m e ∙ omega arith in
          let more = one_more M m one-step e in
          let law = All-push (Lawful p (suc t)) M m (node-lawful p n t T0 before) (kind_lawful p n t T0 before M m (node-lawful p n t T0 before) (next_cases p n t T0 M m e)) in
          let most = distinct_below (vehicle_count p) (vehicles (M ++ m ∷ [])) more.each (vehicles_below (M ++ m ∷ []) law) in
          absurd (too_long M m long most)

pub no_move_is_left : NoMoveIsLeft
no_move_is_left p sound n t = none_left p (steady_of p sound) n t (trace_after p t) (trace-lawful p t)
