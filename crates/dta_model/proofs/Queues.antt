-- How the queues of a trace change with one more move.
use Rattle.std.proofs.Math.Bool.{not-not}
use Rattle.std.specs.List.{list_any}
use Rattle.std.specs.Prelude.{filter}
use Rattle.std.proofs.Common.{◌≡◌, ℕ, Bool, true, false, cond, ◌&&◌, ◌||◌, not, List, [], ◌∷◌, ◌++◌, map, refl, ap, sym, ◌∙◌, subst, arith}
use Rattle.std.proofs.lemmas.Bool.{eqb-true}
use Rattle.std.proofs.lemmas.Bool.Decides.{nat_tests}
use Rattle.std.proofs.lemmas.List.{map-append}
use Rattle.std.proofs.lemmas.List.Elements.{filter-append}
use Rattle.std.proofs.lemmas.List.Folds.{list_any-append}
use Rattle.std.proofs.Math.Dec.{eqb}
use Rattle.dta_model.specs.Trace.{Arrived, Move, Onto, Target, has_moved, is_link, is_of, last_moves, leads_to, queue_of}

-- the test of two vehicles either way round
eqb-sym : (a b : ℕ) → eqb a b ≡ eqb b a
eqb-sym a b = grind (arith, nat_tests)

-- one step of `last_moves-push`
push_step : (p : Move → Bool) (x m : Move) (L L' : List Move) (h e : Bool) → e ≡ not (p x) → L' ≡ filter p L ++ m ∷ [] → cond (h || (e || false)) L' (x ∷ L') ≡ filter p (cond h L (x ∷ L)) ++ m ∷ []
push_step p x m L L' true e t q = q
push_step p x m L L' false e t q = grind arith

-- after one more move its vehicle stands last, and the others stand as before
pub last_moves-push : (T : List Move) (m : Move) → last_moves (T ++ m ∷ []) ≡ filter (λ x. not (is_of m.vehicle x)) (last_moves T) ++ m ∷ []
unfolding last_moves has_moved
last_moves-push [] m = refl
last_moves-push (x ∷ T) m =
    let test : has_moved x.vehicle (T ++ m ∷ []) ≡ (has_moved x.vehicle T || (is_of x.vehicle m || false)) = list_any-append (is_of x.vehicle) T (m ∷ []) in
    rw test (push_step (λ y. not (is_of m.vehicle y)) x m (last_moves T) (last_moves (T ++ m ∷ [])) (has_moved x.vehicle T) (is_of x.vehicle m) (eqb-sym m.vehicle x.vehicle ∙ sym (not-not (eqb x.vehicle m.vehicle))) (last_moves-push T m))

-- the vehicles of moves
abbrev pub vehicles : List Move → List ℕ
vehicles L = map (λ m. m.vehicle) L

-- the list without a number
abbrev pub without : ℕ → List ℕ → List ℕ
without v xs = filter (λ x. not (eqb x v)) xs

-- whether a number is not in a list
abbrev pub absent : ℕ → List ℕ → Bool
absent v xs = not (list_any (λ x. eqb x v) xs)

abbrev pub distinct : List ℕ → Bool
distinct [] = true
distinct (x ∷ xs) = absent x xs && distinct xs

-- one step of `vehicles-filter`
vehicles_step : (p : Move → Bool) (v : ℕ) (x : Move) (L : List Move) (b e : Bool) → e ≡ eqb x.vehicle v → vehicles (filter p (filter (λ m. not (is_of v m)) L)) ≡ without v (vehicles (filter p L)) → b ≡ p x
    → vehicles (filter p (cond (not e) (x ∷ filter (λ m. not (is_of v m)) L) (filter (λ m. not (is_of v m)) L))) ≡ without v (vehicles (cond b (x ∷ filter p L) (filter p L)))
vehicles_step p v x L true true r h t = rw (← r) h
vehicles_step p v x L true false r h t = rw (← t, ← r) (ap (λ xs. x.vehicle ∷ xs) h)
vehicles_step p v x L false true r h t = h
vehicles_step p v x L false false r h t = rw (← t) h

-- a filter by vehicle passes the other way round
pub vehicles-filter : (p : Move → Bool) (v : ℕ) (L : List Move) → vehicles (filter p (filter (λ m. not (is_of v m)) L)) ≡ without v (vehicles (filter p L))
vehicles-filter p v [] = refl
vehicles-filter p v (x ∷ L) = vehicles_step p v x L (p x) (eqb x.vehicle v) refl (vehicles-filter p v L) refl

pub one_vehicle : (b : Bool) (m : Move) → vehicles (cond b (m ∷ []) []) ≡ cond b (m.vehicle ∷ []) []
one_vehicle true m = refl
one_vehicle false m = refl

-- the queues after one more move
pub queue-push : (l : ℕ) (T : List Move) (m : Move) → queue_of l (T ++ m ∷ []) ≡ without m.vehicle (queue_of l T) ++ cond (leads_to l m) (m.vehicle ∷ []) []
unfolding queue_of
queue-push l T m =
    rw (last_moves-push, filter-append (leads_to l) (filter (λ x. not (is_of m.vehicle x)) (last_moves T)) (m ∷ []), map-append, vehicles-filter (leads_to l) m.vehicle (last_moves T), one_vehicle (leads_to l m) m) refl

without_step : (v x : ℕ) (xs : List ℕ) (b : Bool) → not (b || list_any (λ y. eqb y v) xs) ≡ true → without v xs ≡ xs → cond (not b) (x ∷ without v xs) (without v xs) ≡ x ∷ xs
without_step v x xs true h e = cc
without_step v x xs false h e = ap (λ ys. x ∷ ys) e

-- the parts of a test that a number is absent
absent_rest : (b c : Bool) → not (b || c) ≡ true → not c ≡ true
absent_rest true c h = cc
absent_rest false c h = h

absent_more : (b c d : Bool) → not (b || c) ≡ true → not d ≡ true → not (b || d) ≡ true
absent_more true c d h g = cc
absent_more false c d h g = g

-- a number that is absent is not taken out
pub without-absent : (v : ℕ) (xs : List ℕ) → absent v xs ≡ true → without v xs ≡ xs
without-absent v [] h = refl
without-absent v (x ∷ xs) h = without_step v x xs (eqb x v) h (without-absent v xs (absent_rest (eqb x v) _ h))

absent_step : (b : Bool) (p : Move → Bool) (v : ℕ) (x : Move) (L : List Move) → absent v (vehicles (x ∷ L)) ≡ true → absent v (vehicles (filter p L)) ≡ true → absent v (vehicles (cond b (x ∷ filter p L) (filter p L))) ≡ true
absent_step true p v x L h e = absent_more (eqb x.vehicle v) (list_any (λ y. eqb y v) (vehicles L)) (list_any (λ y. eqb y v) (vehicles (filter p L))) h e
absent_step false p v x L h e = e

-- what filters keep of absence
pub absent-filter : (p : Move → Bool) (v : ℕ) (L : List Move) → absent v (vehicles L) ≡ true → absent v (vehicles (filter p L)) ≡ true
absent-filter p v [] h = refl
absent-filter p v (x ∷ L) h = absent_step (p x) p v x L h (absent-filter p v L (absent_rest (eqb x.vehicle v) _ h))

last_step : (b : Bool) (v : ℕ) (x : Move) (T : List Move) (c : Bool) → (eqb x.vehicle v || c) ≡ false → (c ≡ false → absent v (vehicles (last_moves T)) ≡ true) → absent v (vehicles (cond b (last_moves T) (x ∷ last_moves T))) ≡ true
last_step b v x T c h f = grind arith

pub absent-last : (v : ℕ) (T : List Move) → has_moved v T ≡ false → absent v (vehicles (last_moves T)) ≡ true
unfolding has_moved last_moves
absent-last v [] h = refl
absent-last v (x ∷ T) h = last_step (has_moved x.vehicle T) v x T (list_any (is_of v) T) h (absent-last v T)

distinct_step : (b : Bool) (x : Move) (T : List Move) → distinct (vehicles (last_moves T)) ≡ true → (b ≡ false → absent x.vehicle (vehicles (last_moves T)) ≡ true) → distinct (vehicles (cond b (last_moves T) (x ∷ last_moves T))) ≡ true
distinct_step true x T d f = d
distinct_step false x T d f = rw (f refl) d

-- no vehicle stands twice
pub last_moves-distinct : (T : List Move) → distinct (vehicles (last_moves T)) ≡ true
unfolding has_moved last_moves
last_moves-distinct [] = refl
last_moves-distinct (x ∷ T) = distinct_step (has_moved x.vehicle T) x T (last_moves-distinct T) (absent-last x.vehicle T)

-- a move that leads to one link leads to no other
pub leads_once : (l k : ℕ) (m : Move) → leads_to l m ≡ true → (l ≡ k → ⊥) → leads_to k m ≡ false
leads_once l k m h n = link_once m.target h
  where
    link_once : (x : Target) → is_link l x ≡ true → is_link k x ≡ false
    link_once (Onto b) e = grind (arith, nat_tests)
    link_once Arrived e = refl

filter_distinct_step : (b : Bool) (p : Move → Bool) (x : Move) (L : List Move) → (absent x.vehicle (vehicles L) && distinct (vehicles L)) ≡ true → (distinct (vehicles L) ≡ true → distinct (vehicles (filter p L)) ≡ true) → (absent x.vehicle (vehicles L) ≡ true → absent x.vehicle (vehicles (filter p L)) ≡ true)
    → distinct (vehicles (cond b (x ∷ filter p L) (filter p L))) ≡ true
filter_distinct_step b p x L h f g = grind arith

filter-distinct : (p : Move → Bool) (L : List Move) → distinct (vehicles L) ≡ true → distinct (vehicles (filter p L)) ≡ true
filter-distinct p [] h = refl
filter-distinct p (x ∷ L) h = filter_distinct_step (p x) p x L h (filter-distinct p L) (absent-filter p x.vehicle L)

-- no vehicle stands twice in a queue
pub queue-distinct : (l : ℕ) (T : List Move) → distinct (queue_of l T) ≡ true
unfolding queue_of
queue-distinct l T = filter-distinct (leads_to l) (last_moves T) (last_moves-distinct T)

apart_step : (b c e : Bool) (p q : Move → Bool) (v : ℕ) (x : Move) (L : List Move) → e ≡ eqb x.vehicle v → (absent x.vehicle (vehicles L) && distinct (vehicles L)) ≡ true → (b ≡ true → c ≡ false)
    → absent v (vehicles (cond b (x ∷ filter p L) (filter p L))) ≡ false
    → (distinct (vehicles L) ≡ true → absent v (vehicles (filter p L)) ≡ false → absent v (vehicles (filter q L)) ≡ true)
    → (x.vehicle ≡ v → absent x.vehicle (vehicles L) ≡ true → (absent v (vehicles (filter p L)) ≡ true) × (absent v (vehicles (filter q L)) ≡ true))
    → (e ≡ true → x.vehicle ≡ v)
    → absent v (vehicles (cond c (x ∷ filter q L) (filter q L))) ≡ true
apart_step b c e p q v x L r d one h f g w = grind arith

-- a vehicle on one link is on no other
filters-apart : (p q : Move → Bool) → ((m : Move) → p m ≡ true → q m ≡ false) → (v : ℕ) (L : List Move) → distinct (vehicles L) ≡ true → absent v (vehicles (filter p L)) ≡ false → absent v (vehicles (filter q L)) ≡ true
filters-apart p q one v [] d h = refl
filters-apart p q one v (x ∷ L) d h =
    apart_step (p x) (q x) (eqb x.vehicle v) p q v x L refl d (one x) h (filters-apart p q one v L)
    (λ s a. subst (λ w. (absent w (vehicles (filter p L)) ≡ true) × (absent w (vehicles (filter q L)) ≡ true)) s (absent-filter p x.vehicle L a, absent-filter q x.vehicle L a)) (eqb-true x.vehicle v)

pub queues-apart : (l k : ℕ) (v : ℕ) (T : List Move) → (l ≡ k → ⊥) → absent v (queue_of l T) ≡ false → absent v (queue_of k T) ≡ true
unfolding queue_of
queues-apart l k v T n h = filters-apart (leads_to l) (leads_to k) (λ m e. leads_once l k m e n) v (last_moves T) (last_moves-distinct T) h
