-- Which line and which waiting line one vehicle is on.
use Rattle.std.proofs.Math.Bool.{and-false, and-true}
use Rattle.std.proofs.lemmas.Bool.{and_parts}
use Rattle.std.specs.List.{list_any}
use Rattle.std.specs.Prelude.{filter, find, nat_eq}
use Rattle.std.proofs.Common.{◌≡◌, ◌≢◌, ℕ, Bool, true, false, cond, ◌&&◌, ◌||◌, not, List, [], ◌∷◌, refl, ap, sym, ◌∙◌, subst, Option, Some, None, ◌⊎◌, inl, inr}
use Rattle.std.proofs.lemmas.Bool.Decides.{eqb_tells}
use Rattle.std.proofs.Math.Dec.{eqb}
use Rattle.dta_model.specs.declared.plan.Plan.{Plan}
use Rattle.dta_model.specs.Loading.{trace_after}
use Rattle.dta_model.specs.NodeMoves.{is_first}
use Rattle.dta_model.specs.Plans.{first_link, vehicles_of}
use Rattle.dta_model.specs.Riders.{rider_at, riders}
use Rattle.cell_stages.specs.Stages.{line_before, waiting_before, waiting_for}
use Rattle.dta_model.specs.Trace.{Arrived, Move, Onto, Target, has_moved, is_of, last_move, last_moves, leads_there, leads_to, queue_of}
use Rattle.cell_stages.proofs.Arrived.{filter-riders}
use Rattle.dta_model.proofs.Queues.{absent, absent-filter, distinct, last_moves-distinct, vehicles}

-- the link onto which a move leads
abbrev pub link_by : Target → Option ℕ
link_by (Onto l) = Some l
link_by Arrived = None

abbrev pub link_of : Option Move → Option ℕ
link_of None = None
link_of (Some m) = link_by m.target

absent_none : (v : ℕ) (xs : List ℕ) → absent v xs ≡ true → filter (λ w. nat_eq w v) xs ≡ []
absent_none v [] a = refl
absent_none v (x ∷ xs) a = none_step (eqb x v) a (absent_none v xs)
  where
    none_step : (b : Bool) → not (b || list_any (λ y. eqb y v) xs) ≡ true → (absent v xs ≡ true → filter (λ w. nat_eq w v) xs ≡ []) → cond b (x ∷ filter (λ w. nat_eq w v) xs) (filter (λ w. nat_eq w v) xs) ≡ []
    none_step true e ih = cc
    none_step false e ih = ih e

-- a vehicle stands in the queue of the link onto which its last move leads, once
one_in_queue : (l v : ℕ) (L : List Move) → distinct (vehicles L) ≡ true → filter (λ w. nat_eq w v) (vehicles (filter (leads_to l) L)) ≡ cond (leads_there l (find (is_of v) L)) (v ∷ []) []
one_in_queue l v [] d = refl
one_in_queue l v (m ∷ L) d =
    let parts = and_parts (absent m.vehicle (vehicles L)) (distinct (vehicles L)) d in
    queue_step (eqb_tells m.vehicle v) (leads_to l m) refl parts.0 (one_in_queue l v L parts.1)
  where
    queue_step : ((eqb m.vehicle v ≡ true) × (m.vehicle ≡ v)) ⊎ ((eqb m.vehicle v ≡ false) × (m.vehicle ≢ v)) → (b : Bool) → b ≡ leads_to l m → absent m.vehicle (vehicles L) ≡ true
        → filter (λ w. nat_eq w v) (vehicles (filter (leads_to l) L)) ≡ cond (leads_there l (find (is_of v) L)) (v ∷ []) []
        → filter (λ w. nat_eq w v) (vehicles (cond b (m ∷ filter (leads_to l) L) (filter (leads_to l) L))) ≡ cond (leads_there l (cond (eqb m.vehicle v) (Some m) (find (is_of v) L))) (v ∷ []) []
    queue_step (inl (s, same)) true r a ih = rw (s, ← r, same) (ap (λ K. v ∷ K) (absent_none v _ (absent-filter (leads_to l) v L (subst (λ w. absent w (vehicles L) ≡ true) same a))))
    queue_step (inl (s, same)) false r a ih = rw (s, ← r) (absent_none v _ (absent-filter (leads_to l) v L (subst (λ w. absent w (vehicles L) ≡ true) same a)))
    queue_step (inr (s, other)) true r a ih = rw s ih
    queue_step (inr (s, other)) false r a ih = rw s ih

there_is_first : (l : ℕ) (o : Option Move) → leads_there l o ≡ is_first l (link_of o)
there_is_first l None = refl
there_is_first l (Some m) = by_target m.target
  where
    by_target : (x : Target) → leads_to l (record m { target = x }) ≡ is_first l (link_by x)
    by_target (Onto b) = refl
    by_target Arrived = refl

pub line_one : (p : Plan) (t l v : ℕ) → filter (λ r. nat_eq r.number v) (line_before p t l) ≡ cond (is_first l (link_of (last_move v (trace_after p t)))) (rider_at p (trace_after p t) v ∷ []) []
unfolding line_before queue_of last_move
line_one p t l v =
    let T = trace_after p t in
    filter-riders p T v (vehicles (filter (leads_to l) (last_moves T)))
    ∙ ap (riders p T) (one_in_queue l v (last_moves T) (last_moves-distinct T) ∙ ap (λ b. cond b (v ∷ []) []) (there_is_first l (find (is_of v) (last_moves T))))
    ∙ one_rider (is_first l (link_of (find (is_of v) (last_moves T))))
  where
    one_rider : (b : Bool) → riders p (trace_after p t) (cond b (v ∷ []) []) ≡ cond b (rider_at p (trace_after p t) v ∷ []) []
    one_rider true = refl
    one_rider false = refl

filter_both : (q : ℕ → Bool) (v : ℕ) (xs : List ℕ) → filter (λ w. nat_eq w v) (filter q xs) ≡ cond (q v) (filter (λ w. nat_eq w v) xs) []
filter_both q v [] = nothing_twice (q v)
  where
    nothing_twice : (b : Bool) → ◌≡◌ {A = List ℕ} [] (cond b [] [])
    nothing_twice true = refl
    nothing_twice false = refl
filter_both q v (x ∷ xs) = both_step (eqb_tells x v) (q x) refl (filter_both q v xs)
  where
    both_step : ((eqb x v ≡ true) × (x ≡ v)) ⊎ ((eqb x v ≡ false) × (x ≢ v)) → (b : Bool) → b ≡ q x → filter (λ w. nat_eq w v) (filter q xs) ≡ cond (q v) (filter (λ w. nat_eq w v) xs) []
        → filter (λ w. nat_eq w v) (cond b (x ∷ filter q xs) (filter q xs)) ≡ cond (q v) (cond (eqb x v) (x ∷ filter (λ w. nat_eq w v) xs) (filter (λ w. nat_eq w v) xs)) []
    both_step (inl (s, same)) true r ih = let q_v : q v ≡ true = sym (r ∙ ap q same) in rw (s, q_v) (ap (λ K. x ∷ K) (ih ∙ rw q_v refl))
    both_step (inl (s, same)) false r ih = let q_v : q v ≡ false = sym (r ∙ ap q same) in rw (s, q_v) (ih ∙ rw q_v refl)
    both_step (inr (s, other)) true r ih = rw s ih
    both_step (inr (s, other)) false r ih = rw s ih

-- the link at which a vehicle waits, if it waits
abbrev pub waits_at : Bool → Option ℕ → Option ℕ
waits_at true o = None
waits_at false o = o

waits_is : (b : ℕ) (moved : Bool) (o : Option ℕ) → (is_first b o && not moved) ≡ is_first b (waits_at moved o)
waits_is b true None = refl
waits_is b true (Some l) = and-false (eqb l b)
waits_is b false None = refl
waits_is b false (Some l) = and-true (eqb l b)

pub waiting_one : (p : Plan) (t b v : ℕ) → filter (λ r. nat_eq r.number v) (waiting_before p t b)
    ≡ cond (is_first b (waits_at (has_moved v (trace_after p t)) (first_link p v))) (riders p (trace_after p t) (filter (λ w. nat_eq w v) (vehicles_of p))) []
unfolding waiting_before waiting_for
waiting_one p t b v =
    let T = trace_after p t in
    let q : ℕ → Bool = λ w. is_first b (first_link p w) && not (has_moved w T) in
    filter-riders p T v (filter q (vehicles_of p))
    ∙ ap (riders p T) (filter_both q v (vehicles_of p) ∙ ap (λ c. cond c (filter (λ w. nat_eq w v) (vehicles_of p)) []) (waits_is b (has_moved v T) (first_link p v)))
    ∙ some_riders (is_first b (waits_at (has_moved v T) (first_link p v)))
  where
    some_riders : (c : Bool) → riders p (trace_after p t) (cond c (filter (λ w. nat_eq w v) (vehicles_of p)) []) ≡ cond c (riders p (trace_after p t) (filter (λ w. nat_eq w v) (vehicles_of p))) []
    some_riders true = refl
    some_riders false = refl
