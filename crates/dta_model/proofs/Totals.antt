-- The queues of all links together hold the vehicles that run.
use Rattle.net_core.specs.Network.{numbers_below}
use Rattle.std.specs.List.{range_with_len}
use Rattle.std.specs.Prelude.{filter, find, slice_get, All, ◌≢◌, count_by, sum_by, sum}
use Rattle.std.proofs.Common.{◌≡◌, ℕ, zero, suc, ◌+◌, ◌<◌, ◌≤◌, Bool, true, false, cond, ◌&&◌, List, [], ◌∷◌, ◌++◌, length, map, refl, ap, sym, ◌∙◌, subst, arith, Option, Some, None, ◌⊎◌, inl, inr}
use Rattle.std.proofs.lemmas.Bool.{eqb-true, ne_eqb, and_parts}
use Rattle.std.proofs.lemmas.Bool.Decides.{eqb_tells}
use Rattle.std.proofs.lemmas.List.{length-map}
use Rattle.std.proofs.lemmas.List.Sums.{sum_by-cons, length-filter, sum-map}
use Rattle.std.proofs.lemmas.List.Elements.{All-head, All-tail, All-push, All-nil, All-append, All-weaker, All-cons}
use Rattle.std.proofs.Math.Dec.{eqb}
use Rattle.dta_model.specs.declared.plan.Plan.{Plan}
use Rattle.dta_model.specs.Laws.{QueuesAddUp}
use Rattle.dta_model.specs.Loading.{after_step, is_entry, is_onto, trace_after}
use Rattle.dta_model.specs.NodeMoves.{is_first, node_moves, waits_for}
use Rattle.dta_model.specs.Plans.{all_nodes, first_link, route_of, vehicle_count, vehicles_of}
use Rattle.dta_model.proofs.Steady.{IsSteady, steady_of}
use Rattle.dta_model.specs.State.{count_on, is_due, leads_onto, running_in, runs}
use Rattle.dta_model.specs.Trace.{Arrived, Move, Onto, Target, has_moved, is_link, is_of, last_move, last_moves, leads_to, moves_made, next_target, queue_of, target_at}
use Rattle.dta_model.proofs.Queues.{vehicles, absent, distinct, last_moves-distinct}
use Rattle.dta_model.proofs.Standing.{find_absent}
use Rattle.dta_model.proofs.NextMoves.{Kind, head, waiting, next_cases, moves-keep}
use Rattle.dta_model.proofs.Fuel.{Lawful, trace-lawful, has_moved-if, All-flat}
use Rattle.dta_model.proofs.Congruence.{count_same}
use Rattle.dta_model.proofs.Conserved.{mover_due}
use Rattle.std.proofs.lemmas.Option.{same_Some}

-- a move leads to a link of the table, or to none
abbrev pub InTable : ℕ → Move → Type 0
InTable links m = (b : ℕ) → m.target ≡ Onto b → b < links

pub place_in : (P : ℕ → Type 0) (xs : List ℕ) (i b : ℕ) → All P xs → slice_get xs i ≡ Some b → P b
place_in P [] i b all h = cc
place_in P (x ∷ xs) zero b all h = subst P (same_Some x b h) (All-head P x xs all)
place_in P (x ∷ xs) (suc i) b all h = place_in P xs i b (All-tail P x xs all) h

pub target_place : (o : Option ℕ) (b : ℕ) → target_at o ≡ Onto b → o ≡ Some b
target_place None b h = cc
target_place (Some l) b h = let e : l ≡ b = onto_one l b h in ap (λ x. Some x) e
  where
    onto_one : (l b : ℕ) → Onto l ≡ Onto b → l ≡ b
    onto_one l b e = cc

pub first_place : (o : Option ℕ) (b : ℕ) → is_first b o ≡ true → o ≡ Some b
first_place None b h = cc
first_place (Some l) b h = ap (λ x. Some x) (eqb-true l b h)

module _ (p : Plan) (sound : IsSteady p) where
  kind_in : (n t : ℕ) (T0 M : List Move) (m : Move) → Kind p n t T0 M m → InTable (length p.net.links) m
  unfolding waits_for next_target first_link
  kind_in n t T0 M m (head l into h) b e =
      place_in (λ k. k < length p.net.links) (route_of p m.vehicle) (moves_made m.vehicle (T0 ++ M)) b (sound.routes m.vehicle) (target_place (slice_get (route_of p m.vehicle) (moves_made m.vehicle (T0 ++ M))) b (sym h.goes ∙ e))
  kind_in n t T0 M m (waiting k out h) b e =
      let parts = and_parts _ _ h.waits in
      let more = and_parts _ _ parts.0 in
      place_in (λ j. j < length p.net.links) (route_of p m.vehicle) 0 b (sound.routes m.vehicle) (first_place (slice_get (route_of p m.vehicle) 0) k more.0 ∙ ap (λ x. Some x) (onto_one k b (sym h.goes ∙ e)))
    where
      onto_one : (l b : ℕ) → Onto l ≡ Onto b → l ≡ b
      onto_one l b e = cc

  node-in : (n t : ℕ) (T0 : List Move) → All (InTable (length p.net.links)) (node_moves p n t T0)
  node-in n t T0 = moves-keep p n t T0 (λ M. All (InTable (length p.net.links)) M) (λ M m all e. All-push (InTable (length p.net.links)) M m all (kind_in n t T0 M m (next_cases p n t T0 M m e))) (All-nil (InTable (length p.net.links)))

  pub trace-in : (t : ℕ) → All (InTable (length p.net.links)) (trace_after p t)
  unfolding trace_after after_step
  trace-in zero = All-nil (InTable (length p.net.links))
  trace-in (suc t) = All-append (InTable (length p.net.links)) (trace_after p t) _ (trace-in t) (All-flat (InTable (length p.net.links)) (λ n. node_moves p n t (trace_after p t)) (all_nodes p) (λ n. node-in n t (trace_after p t)))

pub all_last : (P : Move → Type 0) (T : List Move) → All P T → All P (last_moves T)
unfolding last_moves
all_last P [] all = All-nil P
all_last P (m ∷ T) all = last_step (has_moved m.vehicle T) (all_last P T (All-tail P m T all))
  where
    last_step : (b : Bool) → All P (last_moves T) → All P (cond b (last_moves T) (m ∷ last_moves T))
    last_step true rest = rest
    last_step false rest = All-cons P m (last_moves T) (All-head P m T all) rest

abbrev one_if : Bool → ℕ
one_if b = cond b 1 0

-- sums over the numbers from one on
pub sum_zero : (k from : ℕ) → sum_by (λ l. 0) (range_with_len from k) ≡ 0
sum_zero zero from = refl
sum_zero (suc k) from = let a = sum_by-cons (λ l. 0) from (range_with_len (from + 1) k) in let rest = sum_zero k (from + 1) in omega (arith, a, rest)

pub sum_both : (f g : ℕ → ℕ) (xs : List ℕ) → sum_by (λ l. f l + g l) xs ≡ sum_by f xs + sum_by g xs
sum_both f g [] = refl
sum_both f g (x ∷ xs) = let a = sum_by-cons (λ l. f l + g l) x xs in let b = sum_by-cons f x xs in let c = sum_by-cons g x xs in let rest = sum_both f g xs in omega (arith, a, b, c, rest)

pub sum_alike : (f g : ℕ → ℕ) → ((l : ℕ) → f l ≡ g l) → (xs : List ℕ) → sum_by f xs ≡ sum_by g xs
sum_alike f g e [] = refl
sum_alike f g e (x ∷ xs) = let a = sum_by-cons f x xs in let b = sum_by-cons g x xs in let here = e x in let rest = sum_alike f g e xs in omega (arith, a, b, here, rest)

sum_past : (b k from : ℕ) → b < from → sum_by (λ l. cond (eqb b l) 1 0) (range_with_len from k) ≡ 0
sum_past b zero from h = refl
sum_past b (suc k) from h =
    let a = sum_by-cons (λ l. cond (eqb b l) 1 0) from (range_with_len (from + 1) k) in
    let here : one_if (eqb b from) ≡ 0 = rw (ne_eqb b from (λ e. absurd (omega (arith, h, e)))) refl in
    let rest = sum_past b k (from + 1) (omega (arith, h)) in
    omega (arith, a, here, rest)

sum_one : (b k from : ℕ) → from ≤ b → b < from + k → sum_by (λ l. cond (eqb b l) 1 0) (range_with_len from k) ≡ 1
sum_one b zero from low high = absurd (omega (arith, low, high))
sum_one b (suc k) from low high = one_step (eqb_tells b from) (sum_past b k (from + 1)) (sum_one b k (from + 1))
  where
    one_step : ((eqb b from ≡ true) × (b ≡ from)) ⊎ ((eqb b from ≡ false) × (b ≢ from)) → (b < from + 1 → sum_by (λ l. cond (eqb b l) 1 0) (range_with_len (from + 1) k) ≡ 0) → (from + 1 ≤ b → b < from + 1 + k → sum_by (λ l. cond (eqb b l) 1 0) (range_with_len (from + 1) k) ≡ 1)
        → sum_by (λ l. cond (eqb b l) 1 0) (range_with_len from (suc k)) ≡ 1
    one_step (inl (s, same)) past ih =
        let a = sum_by-cons (λ l. cond (eqb b l) 1 0) from (range_with_len (from + 1) k) in
        let here : one_if (eqb b from) ≡ 1 = rw s refl in
        let rest = past (omega (arith, same)) in omega (arith, a, here, rest)
    one_step (inr (s, other)) past ih =
        let a = sum_by-cons (λ l. cond (eqb b l) 1 0) from (range_with_len (from + 1) k) in
        let here : one_if (eqb b from) ≡ 0 = rw s refl in
        let rest = ih (omega (arith, low, other)) (omega (arith, high)) in omega (arith, a, here, rest)

pub one_below : (b k : ℕ) → b < k → sum_by (λ l. cond (eqb b l) 1 0) (numbers_below k) ≡ 1
one_below b k h = sum_one b k 0 (omega arith) (omega (arith, h))

-- each move that leads to a link of the table counts at one link
link_counts : (links : ℕ) (x : Target) → ((b : ℕ) → x ≡ Onto b → b < links) → sum_by (λ l. cond (is_link l x) 1 0) (numbers_below links) ≡ cond (is_onto x) 1 0
link_counts links (Onto b) inside = one_below b links (inside b refl)
link_counts links Arrived inside = sum_zero links 0

links_count : (links : ℕ) (L : List Move) → All (InTable links) L → sum_by (λ l. count_by (leads_to l) L) (numbers_below links) ≡ count_by is_entry L
links_count links [] all = sum_zero links 0
links_count links (m ∷ L) all =
    let a = sum_by-cons (λ x. cond (is_entry x) 1 0) m L in
    let b = sum_alike (λ l. count_by (leads_to l) (m ∷ L)) (λ l. cond (leads_to l m) 1 0 + count_by (leads_to l) L) (λ l. sum_by-cons (λ x. cond (leads_to l x) 1 0) m L) (numbers_below links) in
    let c = sum_both (λ l. cond (leads_to l m) 1 0) (λ l. count_by (leads_to l) L) (numbers_below links) in
    let d = link_counts links m.target (All-head (InTable links) m L all) in
    let rest = links_count links L (All-tail (InTable links) m L all) in
    omega (arith, a, b, c, d, rest)

-- each such move of distinct vehicles counts at one vehicle
and_cond : (c e : Bool) → one_if (c && e) ≡ cond e (one_if c) 0
and_cond true true = refl
and_cond true false = refl
and_cond false true = refl
and_cond false false = refl

pub vehicle_count_one : (v n : ℕ) (e : Bool) → v < n → sum_by (λ w. cond (eqb v w && e) 1 0) (numbers_below n) ≡ cond e 1 0
vehicle_count_one v n true h = sum_alike (λ w. cond (eqb v w && true) 1 0) (λ w. cond (eqb v w) 1 0) (λ w. and_cond (eqb v w) true) (numbers_below n) ∙ one_below v n h
vehicle_count_one v n false h = sum_alike (λ w. cond (eqb v w && false) 1 0) (λ w. 0) (λ w. and_cond (eqb v w) false) (numbers_below n) ∙ sum_zero n 0

split_find : (m : Move) (L : List Move) (v : ℕ) → absent m.vehicle (vehicles L) ≡ true → cond (leads_onto (find (is_of v) (m ∷ L))) 1 0 ≡ cond (eqb m.vehicle v && is_entry m) 1 0 + cond (leads_onto (find (is_of v) L)) 1 0
split_find m L v a = split_step (eqb_tells m.vehicle v)
  where
    plain : (n : ℕ) → n ≡ n + 0
    plain n = omega arith

    zero_plus : (n : ℕ) → n ≡ 0 + n
    zero_plus n = omega arith

    split_step : ((eqb m.vehicle v ≡ true) × (m.vehicle ≡ v)) ⊎ ((eqb m.vehicle v ≡ false) × (m.vehicle ≢ v)) → cond (leads_onto (find (is_of v) (m ∷ L))) 1 0 ≡ cond (eqb m.vehicle v && is_entry m) 1 0 + cond (leads_onto (find (is_of v) L)) 1 0
    split_step (inl (s, same)) = rw (s, find_absent v L (subst (λ w. absent w (vehicles L) ≡ true) same a)) (plain (cond (is_entry m) 1 0))
    split_step (inr (s, other)) = rw s (zero_plus (one_if (leads_onto (find (is_of v) L))))

movers_count : (n : ℕ) (L : List Move) → distinct (vehicles L) ≡ true → All (λ m. m.vehicle < n) L → sum_by (λ v. cond (leads_onto (find (is_of v) L)) 1 0) (numbers_below n) ≡ count_by is_entry L
movers_count n [] d all = sum_zero n 0
movers_count n (m ∷ L) d all =
    let parts = and_parts (absent m.vehicle (vehicles L)) (distinct (vehicles L)) d in
    let a = sum_by-cons (λ x. cond (is_entry x) 1 0) m L in
    let b = sum_alike (λ v. cond (leads_onto (find (is_of v) (m ∷ L))) 1 0) (λ v. cond (eqb m.vehicle v && is_entry m) 1 0 + cond (leads_onto (find (is_of v) L)) 1 0) (λ v. split_find m L v parts.0) (numbers_below n) in
    let c = sum_both (λ v. cond (eqb m.vehicle v && is_entry m) 1 0) (λ v. cond (leads_onto (find (is_of v) L)) 1 0) (numbers_below n) in
    let e = vehicle_count_one m.vehicle n (is_entry m) (All-head (λ x. x.vehicle < n) m L all) in
    let rest = movers_count n L parts.1 (All-tail (λ x. x.vehicle < n) m L all) in
    omega (arith, a, b, c, e, rest)

module _ (p : Plan) (t : ℕ) (T : List Move) (law : All (Lawful p t) T) (inside : All (InTable (length p.net.links)) T) where
  on_link : (l : ℕ) → count_on T l ≡ count_by (leads_to l) (last_moves T)
  unfolding count_on queue_of
  on_link l = length-map (filter (leads_to l) (last_moves T)) (λ m. m.vehicle) ∙ length-filter (leads_to l) (last_moves T)

  runs_due : (v : ℕ) → (is_due p t v && leads_onto (last_move v T)) ≡ leads_onto (last_move v T)
  runs_due v = due_step (last_move v T) refl
    where
      and_right : (b c : Bool) → b ≡ true → (b && c) ≡ c
      and_right true c h = refl
      and_right false c h = cc

      and_none : (b : Bool) → (b && false) ≡ false
      and_none true = refl
      and_none false = refl

      due_step : (o : Option Move) → last_move v T ≡ o → (is_due p t v && leads_onto o) ≡ leads_onto o
      due_step None e = and_none (is_due p t v)
      due_step (Some x) e = and_right (is_due p t v) (leads_onto (Some x)) (mover_due p t T law v (has_moved-if v T x e))

  by_find : count_by (λ v. leads_onto (last_move v T)) (vehicles_of p) ≡ count_by is_entry (last_moves T)
  unfolding last_move
  by_find = movers_count (vehicle_count p) (last_moves T) (last_moves-distinct T) (all_last (λ m. m.vehicle < vehicle_count p) T (All-weaker (Lawful p t) (λ m. m.vehicle < vehicle_count p) (λ m a. a.below) T law))

  pub add_up : sum (map (count_on T) (numbers_below (length p.net.links))) ≡ running_in p t T
  unfolding running_in runs
  add_up =
      sum-map (count_on T) (numbers_below (length p.net.links))
      ∙ sum_alike (count_on T) (λ l. count_by (leads_to l) (last_moves T)) on_link (numbers_below (length p.net.links))
      ∙ links_count (length p.net.links) (last_moves T) (all_last (InTable (length p.net.links)) T inside)
      ∙ sym (movers_of)
    where
      movers_of : count_by (λ v. is_due p t v && leads_onto (last_move v T)) (vehicles_of p) ≡ count_by is_entry (last_moves T)
      movers_of = count_same (λ v. is_due p t v && leads_onto (last_move v T)) (λ v. leads_onto (last_move v T)) runs_due (vehicles_of p) ∙ by_find

pub queues_add_up : QueuesAddUp
queues_add_up p sound t = add_up p t (trace_after p t) (trace-lawful p t) (trace-in p (steady_of p sound) t)
