-- The moves of a vehicle follow its route, and steps don't fall.
use Rattle.std.specs.Prelude.{slice_get, All, ◌≢◌, ⊤}
use Rattle.std.proofs.Common.{◌≡◌, ℕ, zero, suc, ◌<◌, ◌≤◌, true, false, List, [], ◌∷◌, ◌++◌, length, refl, ap, sym, ◌∙◌, subst, arith, append_assoc, append-nil, Some, ◌⊎◌, inl, inr}
use Rattle.std.proofs.lemmas.Bool.Decides.{eqb_tells}
use Rattle.std.proofs.lemmas.List.Elements.{All-head, All-tail, All-push, All-nil, All-append, All-weaker}
use Rattle.std.proofs.Math.Dec.{eqb}
use Rattle.dta_model.specs.declared.plan.Plan.{Plan}
use Rattle.dta_model.specs.Laws.{RoutesAreFollowed, StepsRise}
use Rattle.dta_model.specs.Loading.{after_step, step_moves, trace_after}
use Rattle.dta_model.specs.NodeMoves.{node_moves}
use Rattle.dta_model.specs.Plans.{all_nodes, route_of}
use Rattle.dta_model.specs.Trace.{Move, moves_made, moves_of, next_target, target_at}
use Rattle.dta_model.proofs.Pushes.{moves_of-append, moves_made_is}
use Rattle.dta_model.proofs.NextMoves.{Kind, head, waiting, next_cases, moves-keep}
use Rattle.dta_model.proofs.Fuel.{All-flat}
use Rattle.dta_model.proofs.InOrder.{Follows, Fits, trace-follows}
use Rattle.dta_model.proofs.Riders.{own_move, other_move}

-- an element of a list with one more
pub got_push : (xs : List Move) (y m : Move) (i : ℕ) → slice_get (xs ++ y ∷ []) i ≡ Some m → (slice_get xs i ≡ Some m) ⊎ ((i ≡ length xs) × (y ≡ m))
got_push [] y m zero h = inr (refl, some_move y m h)
  where
    some_move : (a b : Move) → Some a ≡ Some b → a ≡ b
    some_move a b e = cc
got_push [] y m (suc i) h = cc
got_push (x ∷ xs) y m zero h = inl h
got_push (x ∷ xs) y m (suc i) h = further (got_push xs y m i h)
  where
    further : (slice_get xs i ≡ Some m) ⊎ ((i ≡ length xs) × (y ≡ m)) → (slice_get xs i ≡ Some m) ⊎ ((suc i ≡ suc (length xs)) × (y ≡ m))
    further (inl e) = inl e
    further (inr (e, f)) = inr (ap suc e, f)

abbrev OnRoute : Plan → List Move → Type 0
OnRoute p T = (v i : ℕ) (m : Move) → slice_get (moves_of v T) i ≡ Some m → m.target ≡ target_at (slice_get (route_of p v) i)

route_push : (p : Plan) (T : List Move) (m : Move) → m.target ≡ next_target p T m.vehicle → OnRoute p T → OnRoute p (T ++ m ∷ [])
unfolding next_target
route_push p T m goes so_far v i x h = push_step (eqb_tells m.vehicle v)
  where
    last_one : (slice_get (moves_of v T) i ≡ Some x) ⊎ ((i ≡ length (moves_of v T)) × (m ≡ x)) → m.vehicle ≡ v → x.target ≡ target_at (slice_get (route_of p v) i)
    last_one (inl e) same = so_far v i x e
    last_one (inr (e, f)) same =
        ap (λ y. y.target) (sym f) ∙ goes ∙ ap (λ w. target_at (slice_get (route_of p w) (moves_made w T))) same ∙ ap (λ k. target_at (slice_get (route_of p v) k)) (moves_made_is v T ∙ sym e)

    push_step : ((eqb m.vehicle v ≡ true) × (m.vehicle ≡ v)) ⊎ ((eqb m.vehicle v ≡ false) × (m.vehicle ≢ v)) → x.target ≡ target_at (slice_get (route_of p v) i)
    push_step (inl (s, same)) = last_one (got_push (moves_of v T) m x i (ap (λ L. slice_get L i) (sym (moves_of-append v T (m ∷ []) ∙ ap (λ L. moves_of v T ++ L) (own_move v m same))) ∙ h)) same
    push_step (inr (s, other)) = so_far v i x (ap (λ L. slice_get L i) (sym (moves_of-append v T (m ∷ []) ∙ ap (λ L. moves_of v T ++ L) (other_move v m other) ∙ append-nil (moves_of v T))) ∙ h)

route_all : (p : Plan) (M U : List Move) → Follows (Fits p) U M → OnRoute p U → OnRoute p (U ++ M)
route_all p [] U f e = subst (OnRoute p) (sym (append-nil U)) e
route_all p (m ∷ M) U f e = subst (OnRoute p) (append_assoc U (m ∷ []) M) (route_all p M (U ++ m ∷ []) f.1 (route_push p U m f.0.1 e))

route_none : (p : Plan) → OnRoute p []
unfolding moves_of
route_none p v i m h = cc

pub routes_are_followed : RoutesAreFollowed
routes_are_followed p t v i m h = route_all p (trace_after p t) [] (trace-follows p t) (route_none p) v i m h

-- lists whose steps don't fall
abbrev Rising : List Move → Type 0
Rising [] = ⊤
Rising (a ∷ B) = All (λ b. a.step ≤ b.step) B × Rising B

rising_same : (t : ℕ) (L : List Move) → All (λ m. m.step ≡ t) L → Rising L
rising_same t [] all = tt
rising_same t (a ∷ L) all =
    let here = All-head (λ m. m.step ≡ t) a L all in
    let rest = All-tail (λ m. m.step ≡ t) a L all in
    (All-weaker (λ m. m.step ≡ t) (λ b. a.step ≤ b.step) (λ b e. same_le a.step b.step t here e) L rest, rising_same t L rest)
  where
    same_le : (x y t : ℕ) → x ≡ t → y ≡ t → x ≤ y
    same_le x y t e f = omega (arith, e, f)

rising_append : (t : ℕ) (A B : List Move) → Rising A → All (λ m. m.step < t) A → All (λ m. m.step ≡ t) B → Rising (A ++ B)
rising_append t [] B r below now = rising_same t B now
rising_append t (a ∷ A) B r below now =
    (All-append (λ b. a.step ≤ b.step) A B r.0 (All-weaker (λ m. m.step ≡ t) (λ b. a.step ≤ b.step) (λ b e. less_le a.step b.step t (All-head (λ m. m.step < t) a A below) e) B now), rising_append t A B r.1 (All-tail (λ m. m.step < t) a A below) now)
  where
    less_le : (x y t : ℕ) → x < t → y ≡ t → x ≤ y
    less_le x y t e f = omega (arith, e, f)

kind_now : (p : Plan) (n t : ℕ) (T0 M : List Move) (m : Move) → Kind p n t T0 M m → m.step ≡ t
kind_now p n t T0 M m (head l into h) = h.now
kind_now p n t T0 M m (waiting b out h) = h.now

node_now : (p : Plan) (n t : ℕ) (T0 : List Move) → All (λ m. m.step ≡ t) (node_moves p n t T0)
node_now p n t T0 = moves-keep p n t T0 (λ M. All (λ m. m.step ≡ t) M) (λ M m all e. All-push (λ m. m.step ≡ t) M m all (kind_now p n t T0 M m (next_cases p n t T0 M m e))) (All-nil (λ m. m.step ≡ t))

record Timed (t : ℕ) (T : List Move) : Type 0 where
  rises : Rising T
  below : All (λ m. m.step < t) T

trace_timed : (p : Plan) (t : ℕ) → Timed t (trace_after p t)
unfolding trace_after after_step
trace_timed p zero = record { rises = tt; below = All-nil (λ m. m.step < 0) }
trace_timed p (suc t) =
    let T = trace_after p t in
    let N = step_moves p t T (all_nodes p) in
    let now : All (λ m. m.step ≡ t) N = All-flat (λ m. m.step ≡ t) (λ n. node_moves p n t T) (all_nodes p) (λ n. node_now p n t T) in
    let before = trace_timed p t in
    record {
      rises = rising_append t T N before.rises before.below now;
      below = All-append (λ m. m.step < suc t) T N (All-weaker (λ m. m.step < t) (λ m. m.step < suc t) (λ m h. less_suc m.step t h) T before.below) (All-weaker (λ m. m.step ≡ t) (λ m. m.step < suc t) (λ m h. same_suc m.step t h) N now);
    }
  where
    less_suc : (x t : ℕ) → x < t → x < suc t
    less_suc x t h = omega (arith, h)

    same_suc : (x t : ℕ) → x ≡ t → x < suc t
    same_suc x t h = omega (arith, h)

rising_at : (A B : List Move) (a : Move) → Rising (A ++ a ∷ B) → All (λ b. a.step ≤ b.step) B
rising_at [] B a r = r.0
rising_at (x ∷ A) B a r = rising_at A B a r.1

below_at : (t : ℕ) (A B : List Move) (a : Move) → All (λ m. m.step < t) (A ++ a ∷ B) → a.step < t
below_at t [] B a h = All-head (λ m. m.step < t) a B h
below_at t (x ∷ A) B a h = below_at t A B a (All-tail (λ m. m.step < t) x (A ++ a ∷ B) h)

pub steps_below : (p : Plan) (t : ℕ) → All (λ m. m.step < t) (trace_after p t)
steps_below p t = (trace_timed p t).below

pub steps_rise : StepsRise
steps_rise p t A B a e =
    let timed = trace_timed p t in
    (below_at t A B a (subst (λ L. All (λ m. m.step < t) L) e timed.below), rising_at A B a (subst Rising e timed.rises))
