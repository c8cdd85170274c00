-- A relation of moves to those before them, which holds of each move that a node makes, holds of the
-- whole trace.
use Rattle.std.specs.List.{flat_map, range_with_len}
use Rattle.std.specs.Prelude.{All, ◌≢◌, ⊤}
use Rattle.std.proofs.Common.{◌≡◌, ℕ, zero, suc, ◌+◌, ◌<◌, List, [], ◌∷◌, ◌++◌, length, sym, subst, arith, Some, append_assoc, append-nil}
use Rattle.std.proofs.lemmas.List.Elements.{All-head, All-tail, All-push, All-nil, All-append, All-weaker}
use Rattle.dta_model.specs.declared.plan.Plan.{Plan}
use Rattle.dta_model.specs.Loading.{after_step, step_moves, trace_after}
use Rattle.dta_model.specs.NodeMoves.{next_move, node_moves}
use Rattle.dta_model.specs.Plans.{all_nodes}
use Rattle.dta_model.specs.Trace.{Move}
use Rattle.dta_model.proofs.AnyOrder.{apart_of}
use Rattle.dta_model.proofs.NextMoves.{Kind, next_cases, moves-keep}
use Rattle.dta_model.proofs.Places.{AtNode, at-node, kind_at}
use Rattle.dta_model.proofs.Same.{Same, Same-blocks, Apart}

-- each of these moves is as the relation says, after those before it
abbrev pub Follows : (List Move → Move → Type 0) → List Move → List Move → Type 0
Follows R U [] = ⊤
Follows R U (m ∷ M) = R U m × Follows R (U ++ m ∷ []) M

pub Follows-append : (R : List Move → Move → Type 0) (M N U : List Move)
    → Follows R U M → Follows R (U ++ M) N → Follows R U (M ++ N)
Follows-append R [] N U f g = subst (λ L. Follows R L N) (append-nil U) g
Follows-append R (m ∷ M) N U f g = (
  f.0,
  Follows-append R M N (U ++ m ∷ []) f.1
      (subst (λ L. Follows R L N) (sym (append_assoc U (m ∷ []) M)) g),
)

pub Follows-at : (R : List Move → Move → Type 0) (S X : List Move) (m : Move) (U : List Move)
    → Follows R U (S ++ m ∷ X) → R (U ++ S) m
Follows-at R [] X m U f = subst (λ L. R L m) (sym (append-nil U)) f.0
Follows-at R (x ∷ S) X m U f =
    subst (λ L. R L m) (append_assoc U (x ∷ []) S) (Follows-at R S X m (U ++ x ∷ []) f.1)

-- a move of a node before this one
Earlier : Plan → ℕ → List Move → ℕ → Move → Type 0
Earlier p t T n d = (a : ℕ) × (a < n) × AtNode p a t T d

less_apart : (a n : ℕ) → a < n → a ≢ n
less_apart a n l e = absurd (omega (arith, l, e))

-- moves of other vehicles, and another order of moves of different nodes, leave the relation as it
-- is
module _ (p : Plan) (R : List Move → Move → Type 0)
    (other : (W : List Move) (d m : Move) → d.vehicle ≢ m.vehicle → R W m → R (W ++ d ∷ []) m)
    (same : (T U : List Move) (m : Move) → Same T U → R T m → R U m)
    (made : (t : ℕ) (T : List Move) (n : ℕ) (M : List Move) (m : Move)
    → Kind p n t T M m → R (T ++ M) m) where
  others : (D W : List Move) (m : Move) → All (λ d. d.vehicle ≢ m.vehicle) D → R W m → R (W ++ D) m
  others [] W m all h = subst (λ L. R L m) (sym (append-nil W)) h
  others (d ∷ D) W m all h =
      subst (λ L. R L m) (append_assoc W (d ∷ []) D)
      (others D (W ++ d ∷ []) m (All-tail (λ x. x.vehicle ≢ m.vehicle) d D all)
      (other W d m (All-head (λ x. x.vehicle ≢ m.vehicle) d D all) h))

  module _ (t : ℕ) (T : List Move) where
    node-follows : (n : ℕ) (D : List Move) → All (Earlier p t T n) D
        → Follows R (T ++ D) (node_moves p n t T) × All (AtNode p n t T) (node_moves p n t T)
    unfolding Earlier
    node-follows n D early =
        moves-keep p n t T (λ M. Follows R (T ++ D) M × All (AtNode p n t T) M) step
        (tt, All-nil (AtNode p n t T))
      where
        step : (M : List Move) (m : Move) → Follows R (T ++ D) M × All (AtNode p n t T) M
            → next_move p n t T M ≡ Some m
            → Follows R (T ++ D) (M ++ m ∷ []) × All (AtNode p n t T) (M ++ m ∷ [])
        step M m so_far e =
            let k = next_cases p n t T M m e in
            let here : AtNode p n t T m = kind_at p n t T M m so_far.1 k in
            let away : All (λ d. d.vehicle ≢ m.vehicle) D =
            All-weaker (Earlier p t T n) (λ d. d.vehicle ≢ m.vehicle)
            (λ d x. (apart_of p t T (x.0) n (less_apart (x.0) n (x.1)) d m (x.2) here).others) D early in
            let apart : All (λ d. All (λ a. Apart a d) M) D =
            All-weaker (Earlier p t T n) (λ d. All (λ a. Apart a d) M)
            (λ d x. All-weaker (AtNode p n t T) (λ a. Apart a d)
            (λ a y. apart_of p t T n (x.0) (λ q. less_apart (x.0) n (x.1) (sym q)) a d y (x.2)) M so_far.1)
            D early in
            let now = same ((T ++ M) ++ D) ((T ++ D) ++ M) m (Same-blocks D M T apart)
            (others D (T ++ M) m away (made t T n M m k)) in (
              Follows-append R M (m ∷ []) (T ++ D) so_far.0 (now, tt),
              All-push (AtNode p n t T) M m so_far.1 here,
            )

    nodes-follow : (k from : ℕ) (D : List Move) → All (Earlier p t T from) D
        → Follows R (T ++ D) (flat_map (λ n. node_moves p n t T) (range_with_len from k))
    unfolding Earlier
    nodes-follow zero from D early = tt
    nodes-follow (suc k) from D early =
        let M = node_moves p from t T in
        let more : All (Earlier p t T (from + 1)) (D ++ M) =
        All-append (Earlier p t T (from + 1)) D M
        (All-weaker (Earlier p t T from) (Earlier p t T (from + 1))
        (λ d x. (x.0, less_more (x.0) from (x.1), x.2)) D early)
        (All-weaker (AtNode p from t T) (Earlier p t T (from + 1))
        (λ d x. (from, less_next from, x)) M (at-node p from t T)) in
        let rest = flat_map (λ n. node_moves p n t T) (range_with_len (from + 1) k) in
        Follows-append R M rest (T ++ D) (node-follows from D early).0
        (subst (λ L. Follows R L rest) (sym (append_assoc T D M))
        (nodes-follow k (from + 1) (D ++ M) more))
      where
        less_more : (a b : ℕ) → a < b → a < b + 1
        less_more a b h = omega (arith, h)

        less_next : (b : ℕ) → b < b + 1
        less_next b = omega arith

  pub whole-follows : (t : ℕ) → Follows R [] (trace_after p t)
  unfolding trace_after after_step
  whole-follows zero = tt
  whole-follows (suc t) =
      let T = trace_after p t in
      Follows-append R T (step_moves p t T (all_nodes p)) [] (whole-follows t)
      (subst (λ L. Follows R L (step_moves p t T (all_nodes p))) (append-nil T)
      (nodes-follow t T (length p.net.nodes) 0 [] (All-nil (Earlier p t T 0))))
