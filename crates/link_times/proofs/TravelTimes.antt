-- A link takes its free-flow steps at least, and the turn at its end its penalty.
use Rattle.std.specs.List.{last_or}
use Rattle.std.specs.Prelude.{◌≢◌, ⊤}
use Rattle.std.proofs.Common.{◌≡◌, ℕ, ◌+◌, ◌≤◌, true, false, List, [], ◌∷◌, ◌++◌, refl, ap, sym, ◌∙◌, subst, arith, Some, ◌⊎◌, inl, inr, append_assoc, append-nil, Option, None}
use Rattle.std.proofs.lemmas.Bool.Decides.{eqb_tells}
use Rattle.std.proofs.lemmas.Bool.{and_parts, not-true}
use Rattle.std.proofs.Math.Dec.{eqb}
use Rattle.std.proofs.lemmas.Option.{same_Some}
use Rattle.net_core.proofs.Orders.{le_holds}
use Rattle.net_core.specs.declared.rows.Turn.{Turn}
use Rattle.dta_model.specs.declared.plan.Plan.{Plan}
use Rattle.dta_model.specs.LinkTimes.{penalty_to}
use Rattle.dta_model.specs.TimedWalks.{penalty_steps}
use Rattle.dta_model.specs.Loading.{trace_after}
use Rattle.dta_model.specs.NodeMoves.{may_move, may_turn, turn_test, waits_for}
use Rattle.dta_model.specs.Plans.{link_at, turn}
use Rattle.dta_model.specs.Trace.{Arrived, Move, Onto, Target, is_link, last_move, moves_of}
use Rattle.dta_model.proofs.Pushes.{last_move-other, moves_of-append}
use Rattle.dta_model.proofs.Standing.{in-queue, no-last}
use Rattle.dta_model.proofs.NextMoves.{Kind, head, waiting, OfHead}
use Rattle.dta_model.proofs.Same.{Same}
use Rattle.dta_model.proofs.Following.{Follows, whole-follows}
use Rattle.dta_model.proofs.Onward.{onto_one}
use Rattle.dta_model.proofs.Riders.{last_move_is, own_move, other_move}

abbrev free_at : Plan → Target → ℕ
free_at p Arrived = 0
free_at p (Onto l) = (link_at p l).free

abbrev penalty_at : Plan → Target → Target → ℕ
penalty_at p Arrived x = 0
penalty_at p (Onto l) x = penalty_to p l x

-- the steps between two moves of a vehicle
abbrev pub Lasts : Plan → Move → Move → Type 0
Lasts p e m = e.step + free_at p e.target + penalty_at p e.target m.target ≤ m.step

-- a move long enough after the last one of its vehicle
abbrev Takes : Plan → List Move → Move → Type 0
Takes p S m = (e : Move) → last_move m.vehicle S ≡ Some e → Lasts p e m

takes-other : (p : Plan) (W : List Move) (d m : Move) → d.vehicle ≢ m.vehicle → Takes p W m → Takes p (W ++ d ∷ []) m
takes-other p W d m other h = λ e q. h e (sym (last_move-other W d m.vehicle other) ∙ q)

takes-same : (p : Plan) (T U : List Move) (m : Move) → Same T U → Takes p T m → Takes p U m
takes-same p T U m s h = λ e q. h e (s.last m.vehicle ∙ q)

module _ (p : Plan) (t : ℕ) (T : List Move) where
  module _ (n : ℕ) where
    by_turn : (M : List Move) (ready l b : ℕ) (o : Option Turn) → turn_test p n t T M ready l b o ≡ true → ready + penalty_steps o ≤ t
    by_turn M ready l b None h = cc
    by_turn M ready l b (Some way) h = le_holds (ready + way.penalty) t (and_parts _ _ (and_parts _ _ h).0).0

    by_target : (M : List Move) (l ready : ℕ) (x : Target) → may_move p n t T M l ready x ≡ true → ready + penalty_to p l x ≤ t
    unfolding may_move may_turn
    by_target M l ready Arrived h = let k = le_holds ready t (and_parts _ _ h).0 in omega (arith, k)
    by_target M l ready (Onto b) h = by_turn M ready l b (turn p l b) (and_parts _ _ h).1

    head_takes : (M : List Move) (l : ℕ) (m : Move) → OfHead p n t T M l m → Takes p (T ++ M) m
    head_takes M l m h e q =
        let x = in-queue l (T ++ M) 0 m.vehicle h.first in
        let same : x.0 ≡ e = same_Some (x.0) e (sym (x.1) ∙ q) in
        let entry : h.entry ≡ e = same_Some h.entry e (sym h.entered ∙ q) in
        let at : e.target ≡ Onto l = onto_one l e.target (subst (λ z. is_link l z.target ≡ true) same (x.2)) in
        let long : h.entry.step + (link_at p l).free + penalty_to p l m.target ≤ t = by_target M l (h.entry.step + (link_at p l).free) m.target h.may in
        subst (λ y. e.step + free_at p y + penalty_at p y m.target ≤ m.step) (sym at)
        (subst (λ s. e.step + (link_at p l).free + penalty_to p l m.target ≤ s) (sym h.now)
        (subst (λ z. z.step + (link_at p l).free + penalty_to p l m.target ≤ t) entry long))

    kind_takes : (M : List Move) (m : Move) → Kind p n t T M m → Takes p (T ++ M) m
    unfolding waits_for
    kind_takes M m (head l into h) = head_takes M l m h
    kind_takes M m (waiting b out h) = λ e q.
        let none : last_move m.vehicle (T ++ M) ≡ None = no-last m.vehicle (T ++ M) (not-true _ (and_parts _ _ h.waits).1) in
        let clash : None ≡ Some e = sym none ∙ q in cc

trace-takes : (p : Plan) (t : ℕ) → Follows (Takes p) [] (trace_after p t)
trace-takes p t = whole-follows p (Takes p) (takes-other p) (takes-same p) (kind_takes p) t

-- moves, each long enough after the one before
abbrev pub Spaced : Plan → Option Move → List Move → Type 0
Spaced p before [] = ⊤
Spaced p None (m ∷ M) = Spaced p (Some m) M
Spaced p (Some e) (m ∷ M) = Lasts p e m × Spaced p (Some m) M

spaced-push : (p : Plan) (before : Option Move) (M : List Move) (m : Move) → Spaced p before M → ((e : Move) → last_or before M ≡ Some e → Lasts p e m) → Spaced p before (M ++ m ∷ [])
spaced-push p None [] m s h = tt
spaced-push p (Some e) [] m s h = (h e refl, tt)
spaced-push p None (x ∷ M) m s h = spaced-push p (Some x) M m s h
spaced-push p (Some e) (x ∷ M) m s h = (s.0, spaced-push p (Some x) M m s.1 h)

spaced-all : (p : Plan) (M U : List Move) → Follows (Takes p) U M → ((v : ℕ) → Spaced p None (moves_of v U)) → (v : ℕ) → Spaced p None (moves_of v (U ++ M))
spaced-all p [] U f s = subst (λ L. (v : ℕ) → Spaced p None (moves_of v L)) (sym (append-nil U)) s
spaced-all p (m ∷ M) U f s = subst (λ L. (v : ℕ) → Spaced p None (moves_of v L)) (append_assoc U (m ∷ []) M) (spaced-all p M (U ++ m ∷ []) f.1 (λ v. one_more v (eqb_tells m.vehicle v)))
  where
    one_more : (v : ℕ) → ((eqb m.vehicle v ≡ true) × (m.vehicle ≡ v)) ⊎ ((eqb m.vehicle v ≡ false) × (m.vehicle ≢ v)) → Spaced p None (moves_of v (U ++ m ∷ []))
    one_more v (inl (t, same)) =
        subst (Spaced p None) (sym (moves_of-append v U (m ∷ []) ∙ ap (λ L. moves_of v U ++ L) (own_move v m same)))
        (spaced-push p None (moves_of v U) m (s v) (λ e q. f.0 e (ap (λ w. last_move w U) same ∙ last_move_is v U ∙ q)))
    one_more v (inr (t, other)) = subst (Spaced p None) (sym (moves_of-append v U (m ∷ []) ∙ ap (λ L. moves_of v U ++ L) (other_move v m other) ∙ append-nil (moves_of v U))) (s v)

nothing_spaced : (p : Plan) (v : ℕ) → Spaced p None (moves_of v [])
unfolding moves_of
nothing_spaced p v = tt

pub moves_are_spaced : (p : Plan) (t v : ℕ) → Spaced p None (moves_of v (trace_after p t))
moves_are_spaced p t v = spaced-all p (trace_after p t) [] (trace-takes p t) (nothing_spaced p) v
