-- The nodes of a step may be taken in any order.
use Rattle.std.proofs.lemmas.Bool.{false_from_ne_true}
use Rattle.std.specs.List.{flat_map}
use Rattle.std.specs.List.Sorted.{IsPermutation}
use Rattle.std.specs.Prelude.{All, ◌≢◌, swap, length, map}
use Rattle.std.proofs.Common.{◌≡◌, ℕ, zero, suc, ◌<◌, true, false, ◌&&◌, not, List, [], ◌∷◌, ◌++◌, refl, ap, sym, ◌∙◌, subst, arith, append_assoc, ◌⊎◌, inl, inr, get_or, set}
use Rattle.std.proofs.lemmas.Bool.Decides.{eqb_tells}
use Rattle.std.proofs.lemmas.List.Sorted.{IsPermutation-keeps}
use Rattle.std.proofs.lemmas.List.Elements.{All-weaker}
use Rattle.std.proofs.Math.Dec.{eqb}
use Rattle.dta_model.specs.declared.plan.Plan.{Plan}
use Rattle.dta_model.specs.Loading.{after_step, arrival_of, entries_of, journey_in, journey_of, journeys_in, journeys_of, step_moves, trace_after}
use Rattle.dta_model.specs.NodeMoves.{node_moves}
use Rattle.dta_model.specs.Orders.{AnyOrder, SameJourneys, trace_in}
use Rattle.dta_model.specs.Plans.{all_nodes, vehicles_of}
use Rattle.dta_model.specs.State.{arrived_in, count_on, eight_in, has_arrived, is_due, leads_onto, leads_out, running_in, runs, waiting_in, waits}
use Rattle.dta_model.specs.Trace.{Move, has_moved, last_move, leads_to}
use Rattle.dta_model.proofs.Same.{Same, Same-refl, Same-back, Same-trans, Same-of, Same-append, Same-blocks, Apart}
use Rattle.dta_model.proofs.Places.{AtNode, at-node, node_of}
use Rattle.dta_model.proofs.Congruence.{count_same, has_moved-same, moves-same}
use Rattle.std.proofs.lemmas.Option.{same_Some}

-- one list in the order of the other, by exchanges of neighbours
data Permuted : List ℕ → List ℕ → Type 0 where
  none : Permuted [] []
  skip : (x : ℕ) (xs ys : List ℕ) → Permuted xs ys → Permuted (x ∷ xs) (x ∷ ys)
  turn : (x y : ℕ) (xs : List ℕ) → Permuted (x ∷ y ∷ xs) (y ∷ x ∷ xs)
  join : (xs ys zs : List ℕ) → Permuted xs ys → Permuted ys zs → Permuted xs zs

Permuted-refl : (xs : List ℕ) → Permuted xs xs
Permuted-refl [] = none
Permuted-refl (x ∷ xs) = skip x xs xs (Permuted-refl xs)

to_front : (x : ℕ) (xs : List ℕ) (j d : ℕ) → j < length xs → Permuted (x ∷ xs) (get_or xs j d ∷ set xs j x)
to_front x [] j d h = absurd (omega arith)
to_front x (y ∷ xs) zero d h = turn x y xs
to_front x (y ∷ xs) (suc j) d h =
    join (x ∷ y ∷ xs) (y ∷ x ∷ xs) (get_or xs j d ∷ y ∷ set xs j x) (turn x y xs)
    (join (y ∷ x ∷ xs) (y ∷ get_or xs j d ∷ set xs j x) (get_or xs j d ∷ y ∷ set xs j x) (skip y (x ∷ xs) (get_or xs j d ∷ set xs j x) (to_front x xs j d (omega arith))) (turn y (get_or xs j d) (set xs j x)))

exchange : (xs : List ℕ) (i j d : ℕ) → i < length xs → j < length xs → Permuted xs (set (set xs i (get_or xs j d)) j (get_or xs i d))
exchange [] i j d h k = absurd (omega arith)
exchange (x ∷ xs) zero zero d h k = Permuted-refl (x ∷ xs)
exchange (x ∷ xs) zero (suc j) d h k = to_front x xs j d (omega arith)
exchange (x ∷ xs) (suc i) zero d h k = to_front x xs i d (omega arith)
exchange (x ∷ xs) (suc i) (suc j) d h k = skip x xs _ (exchange xs i j d (omega arith) (omega arith))

swapped : (l : List ℕ) (i j : ℕ) → i < length l → j < length l → Permuted l (swap l i j)
swapped [] i j h k = absurd (omega arith)
swapped (x ∷ l) i j h k = exchange (x ∷ l) i j x h k

Permuted-from : (xs ys : List ℕ) → IsPermutation xs ys → Permuted xs ys
Permuted-from xs ys h = IsPermutation-keeps xs (Permuted xs) (Permuted-refl xs) (λ l i j a b sofar. join xs l (swap l i j) sofar (swapped l i j a b)) ys h

module _ (f : ℕ → List Move) (apart : (a b : ℕ) → a ≢ b → All (λ y. All (λ x. Apart x y) (f a)) (f b)) where
  turned_blocks : (x y : ℕ) (U : List Move) → ((eqb x y ≡ true) × (x ≡ y)) ⊎ ((eqb x y ≡ false) × (x ≢ y)) → Same ((U ++ f x) ++ f y) ((U ++ f y) ++ f x)
  turned_blocks x y U (inl (s, same)) = subst (λ z. Same ((U ++ f x) ++ f z) ((U ++ f z) ++ f x)) same (Same-refl ((U ++ f x) ++ f x))
  turned_blocks x y U (inr (s, other)) = Same-blocks (f y) (f x) U (apart x y other)

  regroup : (x y : ℕ) (U R : List Move) → U ++ (f x ++ (f y ++ R)) ≡ ((U ++ f x) ++ f y) ++ R
  regroup x y U R = sym (append_assoc (U ++ f x) (f y) R ∙ append_assoc U (f x) (f y ++ R))

  -- lists of moves in another order
  blocks : (xs ys : List ℕ) → Permuted xs ys → (U : List Move) → Same (U ++ flat_map f xs) (U ++ flat_map f ys)
  blocks xs ys none U = Same-refl (U ++ [])
  blocks xs ys (skip x cs1 cs2 h) U =
      Same-of (U ++ (f x ++ flat_map f cs1)) (U ++ (f x ++ flat_map f cs2)) ((U ++ f x) ++ flat_map f cs1) ((U ++ f x) ++ flat_map f cs2) (sym (append_assoc U (f x) (flat_map f cs1))) (sym (append_assoc U (f x) (flat_map f cs2)))
      (blocks cs1 cs2 h (U ++ f x))
  blocks xs ys (turn x y r) U =
      Same-of (U ++ (f x ++ (f y ++ flat_map f r))) (U ++ (f y ++ (f x ++ flat_map f r))) (((U ++ f x) ++ f y) ++ flat_map f r) (((U ++ f y) ++ f x) ++ flat_map f r) (regroup x y U (flat_map f r)) (regroup y x U (flat_map f r))
      (Same-append (flat_map f r) ((U ++ f x) ++ f y) ((U ++ f y) ++ f x) (turned_blocks x y U (eqb_tells x y)))
  blocks xs ys (join cs1 cs2 cs3 h k) U = Same-trans (U ++ flat_map f cs1) (U ++ flat_map f cs2) (U ++ flat_map f cs3) (blocks cs1 cs2 h U) (blocks cs2 cs3 k U)

-- moves of different nodes in one step
pub apart_of : (p : Plan) (t : ℕ) (T : List Move) (a b : ℕ) → a ≢ b → (x y : Move) → AtNode p a t T x → AtNode p b t T y → Apart x y
apart_of p t T a b n x y at_a at_b = record {
  others = λ e. n (same_Some a b (sym at_a.stood ∙ ap (λ v. node_of p T v) e ∙ at_b.stood));
  ways = λ l e. false_from_ne_true (leads_to l y) (λ f. n (sym (at_a.leads l e) ∙ at_b.leads l f));
}

pub nodes-apart : (p : Plan) (t : ℕ) (T : List Move) (a b : ℕ) → a ≢ b → All (λ y. All (λ x. Apart x y) (node_moves p a t T)) (node_moves p b t T)
nodes-apart p t T a b n =
    All-weaker (AtNode p b t T) (λ y. All (λ x. Apart x y) (node_moves p a t T))
    (λ y at_b. All-weaker (AtNode p a t T) (λ x. Apart x y) (λ x at_a. apart_of p t T a b n x y at_a at_b) (node_moves p a t T) (at-node p a t T))
    (node_moves p b t T) (at-node p b t T)

flat_same : (f g : ℕ → List Move) → ((x : ℕ) → f x ≡ g x) → (xs : List ℕ) → flat_map f xs ≡ flat_map g xs
flat_same f g e [] = refl
flat_same f g e (x ∷ xs) = rw (e x, flat_same f g e xs) refl

orders-same : (p : Plan) (order : ℕ → List ℕ) → ((t : ℕ) → IsPermutation (all_nodes p) (order t)) → (t : ℕ) → Same (trace_in p order t) (trace_after p t)
unfolding trace_in trace_after after_step
orders-same p order any zero = Same-refl []
orders-same p order any (suc t) =
    let T = trace_in p order t in
    let U = trace_after p t in
    let before : Same T U = orders-same p order any t in
    let one : step_moves p t T (order t) ≡ step_moves p t U (order t) = flat_same (λ n. node_moves p n t T) (λ n. node_moves p n t U) (λ n. moves-same p n t T U before) (order t) in
    let there : Same (U ++ step_moves p t U (all_nodes p)) (U ++ step_moves p t U (order t)) = blocks (λ n. node_moves p n t U) (nodes-apart p t U) (all_nodes p) (order t) (Permuted-from (all_nodes p) (order t) (any t)) U in
    Same-of (T ++ step_moves p t T (order t)) (U ++ step_moves p t U (all_nodes p)) (T ++ step_moves p t U (order t)) (U ++ step_moves p t U (all_nodes p)) (ap (λ L. T ++ L) one) refl
    (Same-trans (T ++ step_moves p t U (order t)) (U ++ step_moves p t U (order t)) (U ++ step_moves p t U (all_nodes p)) (Same-append (step_moves p t U (order t)) T U before) (Same-back there))

-- the eight numbers of traces that tell the same
pub eight-same : (p : Plan) (t : ℕ) (T U : List Move) → Same T U → eight_in p t T ≡ eight_in p t U
unfolding eight_in waiting_in running_in arrived_in count_on waits runs has_arrived
eight-same p t T U s =
    rw (
      count_same (λ v. is_due p t v && not (has_moved v T)) (λ v. is_due p t v && not (has_moved v U)) (λ v. ap (λ c. is_due p t v && not c) (has_moved-same T U s v)) (vehicles_of p),
      count_same (λ v. is_due p t v && leads_onto (last_move v T)) (λ v. is_due p t v && leads_onto (last_move v U)) (λ v. ap (λ o. is_due p t v && leads_onto o) (s.last v)) (vehicles_of p),
      count_same (λ v. is_due p t v && leads_out (last_move v T)) (λ v. is_due p t v && leads_out (last_move v U)) (λ v. ap (λ o. is_due p t v && leads_out o) (s.last v)) (vehicles_of p),
      s.queues 0,
      s.queues 1,
      s.queues 2,
      s.queues 3,
    ) refl

pub any_order : AnyOrder
any_order p order any t =
    let s = orders-same p order any t in
    record { queues = s.queues; moves = s.moves; eight = eight-same p t (trace_in p order t) (trace_after p t) s }

-- the journeys in them
journeys-same : (p : Plan) (T U : List Move) → Same T U → journeys_in p T ≡ journeys_in p U
unfolding journeys_in entries_of arrival_of
journeys-same p T U s = each (vehicles_of p)
  where
    each : (vs : List ℕ) → map (journey_in T) vs ≡ map (journey_in U) vs
    each [] = refl
    each (v ∷ vs) = rw (s.moves v, each vs) refl

pub same_journeys : SameJourneys
unfolding journeys_of journey_of journeys_in
same_journeys p order any = journeys-same p (trace_in p order p.horizon) (trace_after p p.horizon) (orders-same p order any p.horizon)
