-- The steps of a vehicle's moves, as its journey tells them.
use Rattle.std.specs.Prelude.{All, count_by, filter, find, nat_eq, nat_lt, option_to_list}
use Rattle.std.specs.Prelude.{slice_get, ◌≢◌}
use Rattle.std.proofs.Common.{◌≡◌, ◌⊎◌, inl, inr, ℕ, zero, suc, ◌+◌, ◌<◌, ◌≤◌, Bool, true, false}
use Rattle.std.proofs.Common.{cond, not, ◌&&◌, List, [], ◌∷◌, ◌++◌, map, refl, ap, sym, ◌∙◌}
use Rattle.std.proofs.Common.{subst, arith, get_or, Option, Some, None}
use Rattle.std.proofs.lemmas.Bool.{and_parts, ne_eqb}
use Rattle.std.proofs.lemmas.Bool.Decides.{eqb_tells}
use Rattle.std.proofs.lemmas.List.{map-append}
use Rattle.std.proofs.lemmas.List.Elements.{All-append, All-head, All-nil, All-push, All-tail}
use Rattle.std.proofs.lemmas.List.Elements.{filter_passes}
use Rattle.std.proofs.lemmas.Option.{option_and_then_some, slice_get-map}
use Rattle.std.proofs.Math.Dec.{eqb}
use Rattle.net_core.proofs.Orders.{lt_holds}
use Rattle.dta_model.specs.Laws.{visit_begins, visit_ends}
use Rattle.dta_model.specs.Loading.{after_step, arrival_of, entries_of, is_entry, is_onto}
use Rattle.dta_model.specs.Loading.{journey_of, journeys_of, step_in, step_moves, trace_after}
use Rattle.dta_model.specs.NodeMoves.{node_moves}
use Rattle.dta_model.specs.Plans.{all_nodes, departure_of}
use Rattle.dta_model.specs.Sound.{IsSound}
use Rattle.dta_model.specs.State.{is_due, is_routed}
use Rattle.dta_model.specs.Trace.{Arrived, Move, Onto, Target, is_of, moves_of}
use Rattle.dta_model.specs.declared.loaded.Journey.{Journey}
use Rattle.dta_model.specs.declared.plan.Plan.{Plan}
use Rattle.dta_model.proofs.Arrivals.{arrival_is_last}
use Rattle.dta_model.proofs.Ends.{journey_is, map_some}
use Rattle.dta_model.proofs.Fuel.{All-flat, node-lawful, trace-lawful}
use Rattle.dta_model.proofs.NextMoves.{Kind, head, moves-keep, next_cases, waiting}
use Rattle.dta_model.proofs.Steady.{all_at, steady_of}
use Rattle.link_times.proofs.Along.{spaced_at}
use Rattle.link_times.proofs.TravelTimes.{Lasts, moves_are_spaced}
use Rattle.traffic_laws.proofs.Counts.{count-cons, one_if}
use Rattle.traffic_laws.specs.FreeFlow.{MovesOnceInAStep}

-- a journey has the steps of a vehicle's moves: of its entries, and then of its arrival
abbrev pub steps_in : Journey → List ℕ
steps_in j = j.entries ++ option_to_list j.arrival

pub steps_are : (p : Plan) (v : ℕ)
    → map (λ m. m.step) (moves_of v (trace_after p p.horizon)) ≡ steps_in (journey_of p v)
unfolding journey_of entries_of arrival_of
steps_are p v =
    let ms = moves_of v (trace_after p p.horizon) in
    ap (map (λ m. m.step)) (arrival_is_last p p.horizon v)
    ∙ map-append (λ m. m.step) (filter is_entry ms)
    (option_to_list (find (λ m. not (is_entry m)) ms))
    ∙ ap (λ L. map (λ m. m.step) (filter is_entry ms) ++ L)
    (one_step (find (λ m. not (is_entry m)) ms))
  where
    one_step : (o : Option Move) → map (λ m. m.step) (option_to_list o) ≡ option_to_list (step_in o)
    one_step None = refl
    one_step (Some m) = refl

-- a vehicle's move at a place, in a step
pub record MoveAt (p : Plan) (v k step : ℕ) : Type 0 where
  pub move : Move
  pub there : slice_get (moves_of v (trace_after p p.horizon)) k ≡ Some move
  pub is : move.step ≡ step

move_at : (p : Plan) (v k step : ℕ) (j : Journey) → slice_get (journeys_of p) v ≡ Some j
    → slice_get (steps_in j) k ≡ Some step → MoveAt p v k step
move_at p v k step j there at =
    let same = journey_is p v j there in
    let ms = moves_of v (trace_after p p.horizon) in
    let x = map_some (λ m. m.step) (slice_get ms k) step
    (sym (slice_get-map (λ m. m.step) ms k) ∙ ap (λ L. slice_get L k) (steps_are p v)
    ∙ subst (λ y. slice_get (steps_in y) k ≡ Some step) same at) in
    record { move = x.0; there = x.1; is = x.2 }

got_first : (xs ys : List ℕ) (i x : ℕ) → slice_get xs i ≡ Some x → slice_get (xs ++ ys) i ≡ Some x
got_first [] ys i x e = cc
got_first (y ∷ xs) ys zero x e = e
got_first (y ∷ xs) ys (suc i) x e = got_first xs ys i x e

pub begun : (p : Plan) (v i a : ℕ) → visit_begins (journeys_of p) v i ≡ Some a → MoveAt p v i a
begun p v i a e =
    option_and_then_some (λ j. slice_get j.entries i) (slice_get (journeys_of p) v) a e
    (λ j there at. move_at p v i a j there
    (got_first j.entries (option_to_list j.arrival) i a at))

pub ended : (p : Plan) (v i b : ℕ) → visit_ends (journeys_of p) v i ≡ Some b
    → MoveAt p v (suc i) b
ended p v i b e =
    option_and_then_some (λ j. slice_get (steps_in j) (suc i)) (slice_get (journeys_of p) v) b e
    (λ j there at. move_at p v (suc i) b j there at)

-- ---- nobody moves before the departure
kind_now : (p : Plan) (n t : ℕ) (T M : List Move) (m : Move) → Kind p n t T M m → m.step ≡ t
kind_now p n t T M m (head l into h) = h.now
kind_now p n t T M m (waiting b out h) = h.now

pub node_now : (p : Plan) (n t : ℕ) (T : List Move) → All (λ m. m.step ≡ t) (node_moves p n t T)
node_now p n t T =
    moves-keep p n t T (λ M. All (λ m. m.step ≡ t) M)
    (λ M m all e. All-push (λ m. m.step ≡ t) M m all
    (kind_now p n t T M m (next_cases p n t T M m e))) (All-nil (λ m. m.step ≡ t))

abbrev NotEarly : Plan → Move → Type 0
NotEarly p m = departure_of p m.vehicle ≤ m.step

node_not_early : (p : Plan) (t n : ℕ) → All (NotEarly p) (node_moves p n t (trace_after p t))
unfolding is_due
node_not_early p t n i d h =
    let x : Move = get_or (node_moves p n t (trace_after p t)) i d in
    let a = node-lawful p n t (trace_after p t) (trace-lawful p t) i d h in
    let now = node_now p n t (trace_after p t) i d h in
    let parts = and_parts (is_routed p x.vehicle)
    (nat_lt (departure_of p x.vehicle) (suc t)) a.due in
    let late = lt_holds (departure_of p x.vehicle) (suc t) parts.1 in
    omega (arith, late, now)

not_early : (p : Plan) (t : ℕ) → All (NotEarly p) (trace_after p t)
unfolding trace_after after_step
not_early p zero = All-nil (NotEarly p)
not_early p (suc t) =
    All-append (NotEarly p) (trace_after p t) (step_moves p t (trace_after p t) (all_nodes p))
    (not_early p t)
    (All-flat (NotEarly p) (λ n. node_moves p n t (trace_after p t)) (all_nodes p)
    (λ n. node_not_early p t n))

-- what is true of all moves is true of a vehicle's, with the vehicle
pub all_own : (P : Move → Type 0) (v : ℕ) (T : List Move) → All P T
    → All (λ m. P m × (m.vehicle ≡ v)) (moves_of v T)
unfolding moves_of
all_own P v [] all i d h = absurd (omega (arith, h))
all_own P v (m ∷ T) all i d h =
    by (eqb_tells m.vehicle v) (all_own P v T (All-tail P m T all)) i d h
  where
    by : ((eqb m.vehicle v ≡ true) × (m.vehicle ≡ v))
        ⊎ ((eqb m.vehicle v ≡ false) × (m.vehicle ≢ v))
        → All (λ m. P m × (m.vehicle ≡ v)) (moves_of v T)
        → All (λ m. P m × (m.vehicle ≡ v)) (cond (eqb m.vehicle v) (m ∷ moves_of v T)
        (moves_of v T))
    by (inl (t, same)) ih = rw t (λ i d h. first i d h)
      where
        first : All (λ m. P m × (m.vehicle ≡ v)) (m ∷ moves_of v T)
        first zero d h = (All-head P m T all, same)
        first (suc i) d h = ih i d (omega (arith, h))
    by (inr (t, other)) ih = rw t ih

pub own_not_early : (p : Plan) (v k step : ℕ) → MoveAt p v k step → departure_of p v ≤ step
own_not_early p v k step at =
    let a = all_at (λ m. NotEarly p m × (m.vehicle ≡ v)) (moves_of v (trace_after p p.horizon)) k
    at.move (all_own (NotEarly p) v (trace_after p p.horizon) (not_early p p.horizon)) at.there in
    let mine : departure_of p v ≤ at.move.step =
    subst (λ w. departure_of p w ≤ at.move.step) (a.1) (a.0) in
    let is = at.is in
    omega (arith, mine, is)

-- ---- the moves of a vehicle are in different steps
last_out : (E : List Move) (o : Option Move) (i : ℕ) (a b : Move)
    → All (λ m. is_entry m ≡ true) E → slice_get (E ++ option_to_list o) i ≡ Some a
    → slice_get (E ++ option_to_list o) (suc i) ≡ Some b → is_entry a ≡ true
last_out [] None i a b all e f = cc
last_out [] (Some x) i a b all e f = cc
last_out (x ∷ E) o zero a b all e f =
    let same : x ≡ a = cc in
    subst (λ y. is_entry y ≡ true) same (All-head (λ m. is_entry m ≡ true) x E all)
last_out (x ∷ E) o (suc i) a b all e f =
    last_out E o i a b (All-tail (λ m. is_entry m ≡ true) x E all) e f

onto : (x : Target) → is_onto x ≡ true → (l : ℕ) × (x ≡ Onto l)
onto (Onto l) e = (l, refl)
onto Arrived e = cc

-- of two moves of a vehicle the second comes as much later as its link takes, and its turn
pub next_lasts : (p : Plan) (t v i : ℕ) (a b : Move)
    → slice_get (moves_of v (trace_after p t)) i ≡ Some a
    → slice_get (moves_of v (trace_after p t)) (suc i) ≡ Some b → Lasts p a b
next_lasts p t v i a b e f =
    spaced_at p None (moves_of v (trace_after p t)) i a b (moves_are_spaced p t v) e f

pub next_later : (p : Plan) → IsSound p → (t v i : ℕ) (a b : Move)
    → slice_get (moves_of v (trace_after p t)) i ≡ Some a
    → slice_get (moves_of v (trace_after p t)) (suc i) ≡ Some b → a.step < b.step
next_later p sound t v i a b e f =
    let ms = moves_of v (trace_after p t) in
    let whole = arrival_is_last p t v in
    let entry = last_out (filter is_entry ms) (find (λ m. not (is_entry m)) ms) i a b
    (filter_passes is_entry ms) (ap (λ L. slice_get L i) (sym whole) ∙ e)
    (ap (λ L. slice_get L (suc i)) (sym whole) ∙ f) in
    let on = onto a.target entry in
    later (a.target) (on.0) (on.1) (next_lasts p t v i a b e f)
  where
    later : (x : Target) (l : ℕ) → x ≡ Onto l → Lasts p (record a { target = x }) b
        → a.step < b.step
    later x l q lasts =
        let k = subst (λ y. Lasts p (record a { target = y }) b) q lasts in
        let free = (steady_of p sound).free l in
        omega (arith, k, free)

abbrev Later : List Move → Type 0
Later L =
    (i : ℕ) (a b : Move) → slice_get L i ≡ Some a → slice_get L (suc i) ≡ Some b → a.step < b.step

all_later : (x : Move) (L : List Move) → Later (x ∷ L) → All (λ m. x.step < m.step) L
all_later x [] h i d k = absurd (omega (arith, k))
all_later x (y ∷ L) h zero d k = h 0 x y refl refl
all_later x (y ∷ L) h (suc i) d k =
    let first = h 0 x y refl refl in
    let rest = all_later y L (λ j a b e f. h (suc j) a b e f) i d (omega (arith, k)) in
    omega (arith, first, rest)

none_then : (step : ℕ) (L : List Move) → All (λ m. step < m.step) L
    → count_by (λ m. nat_eq m.step step) L ≡ 0
none_then step [] all = refl
none_then step (x ∷ L) all =
    let more = count-cons (λ m. nat_eq m.step step) x L in
    let rest = none_then step L (All-tail (λ m. step < m.step) x L all) in
    let here = ne_eqb x.step step (less (All-head (λ m. step < m.step) x L all)) in
    let zero : one_if (nat_eq x.step step) ≡ 0 = rw here refl in
    omega (arith, more, rest, zero)
  where
    less : {a b : ℕ} → a < b → b ≢ a
    less h e = omega (arith, h, e)

once_then : (step : ℕ) (L : List Move) → Later L → count_by (λ m. nat_eq m.step step) L ≤ 1
once_then step [] h = omega arith
once_then step (x ∷ L) h =
    by (eqb_tells x.step step) (once_then step L (λ i a b e f. h (suc i) a b e f))
  where
    more : count_by (λ m. nat_eq m.step step) (x ∷ L)
        ≡ one_if (nat_eq x.step step) + count_by (λ m. nat_eq m.step step) L
    more = count-cons (λ m. nat_eq m.step step) x L

    by : ((eqb x.step step ≡ true) × (x.step ≡ step))
        ⊎ ((eqb x.step step ≡ false) × (x.step ≢ step))
        → count_by (λ m. nat_eq m.step step) L ≤ 1
        → count_by (λ m. nat_eq m.step step) (x ∷ L) ≤ 1
    by (inl (t, same)) rest =
        let none = none_then step L
        (subst (λ s. All (λ m. s < m.step) L) same (all_later x L h)) in
        let m = more in
        let one : one_if (nat_eq x.step step) ≡ 1 = rw t refl in
        omega (arith, none, m, one)
    by (inr (t, other)) rest =
        let m = more in
        let zero : one_if (nat_eq x.step step) ≡ 0 = rw t refl in
        omega (arith, rest, m, zero)

own_count : (q : Move → Bool) (v : ℕ) (T : List Move)
    → count_by (λ m. is_of v m && q m) T ≡ count_by q (moves_of v T)
unfolding moves_of
own_count q v [] = refl
own_count q v (m ∷ T) =
    by (eqb m.vehicle v) (own_count q v T) (count-cons (λ x. is_of v x && q x) m T)
  where
    by : (b : Bool) → count_by (λ x. is_of v x && q x) T ≡ count_by q (moves_of v T)
        → count_by (λ x. is_of v x && q x) (m ∷ T)
        ≡ one_if (b && q m) + count_by (λ x. is_of v x && q x) T
        → count_by (λ x. is_of v x && q x) (m ∷ T)
        ≡ count_by q (cond b (m ∷ moves_of v T) (moves_of v T))
    by true ih more = let k = count-cons q m (moves_of v T) in omega (arith, ih, more, k)
    by false ih more = omega (arith, ih, more)

pub moves_once_in_a_step : MovesOnceInAStep
moves_once_in_a_step p sound t v step =
    let all = own_count (λ m. nat_eq m.step step) v (trace_after p t) in
    let once = once_then step (moves_of v (trace_after p t)) (next_later p sound t v) in
    omega (arith, all, once)
