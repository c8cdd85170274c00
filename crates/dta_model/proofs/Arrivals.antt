-- A vehicle's arrival is its last move.
use Rattle.std.specs.Option.{option_or}
use Rattle.std.specs.Prelude.{option_to_list, filter, find, ◌≢◌}
use Rattle.std.proofs.Common.{◌≡◌, ℕ, Bool, true, false, cond, not, List, [], ◌∷◌, ◌++◌, refl, ap, sym, ◌∙◌, subst, append_assoc, append-nil, Option, Some, None, ◌⊎◌, inl, inr}
use Rattle.std.proofs.lemmas.Bool.Decides.{eqb_tells}
use Rattle.std.proofs.lemmas.List.Elements.{filter-append}
use Rattle.std.proofs.lemmas.List.Folds.{find-append}
use Rattle.std.proofs.Math.Dec.{eqb}
use Rattle.dta_model.specs.declared.plan.Plan.{Plan}
use Rattle.dta_model.specs.Laws.{ArrivalIsLast, MovesInOrder}
use Rattle.dta_model.specs.Loading.{is_entry, trace_after}
use Rattle.dta_model.specs.State.{leads_onto}
use Rattle.dta_model.specs.Trace.{Move, moves_of}
use Rattle.dta_model.proofs.Pushes.{moves_of-append}
use Rattle.dta_model.proofs.Standing.{in-queue}
use Rattle.dta_model.proofs.NoMoves.{no-moves}
use Rattle.dta_model.proofs.Conserved.{link_onto}
use Rattle.dta_model.proofs.InOrder.{Follows, Fits, trace-follows}
use Rattle.dta_model.proofs.Riders.{own_move, other_move, Enters, enters_push, nothing_enters, no_arrival}

abbrev Whole : List Move → Type 0
Whole L = L ≡ filter is_entry L ++ option_to_list (find (λ m. not (is_entry m)) L)

-- who moves in turn only entered links so far
only_entered : (T : List Move) (m : Move) → MovesInOrder T m → Enters T → filter is_entry (moves_of m.vehicle T) ≡ moves_of m.vehicle T
only_entered T m (inl none) so_far = rw (no-moves m.vehicle T none) refl
only_entered T m (inr (l, e)) so_far = let x = in-queue l T 0 m.vehicle e in so_far m.vehicle (ap leads_onto (x.1) ∙ link_onto l (x.0).target (x.2))

whole_push : (L : List Move) (m : Move) → filter is_entry L ≡ L → Whole (L ++ m ∷ [])
whole_push L m only =
    sym (ap (λ F. F ++ option_to_list (find (λ x. not (is_entry x)) (L ++ m ∷ []))) (filter-append is_entry L (m ∷ []) ∙ ap (λ F. F ++ cond (is_entry m) (m ∷ []) []) only)
    ∙ ap (λ o. (L ++ cond (is_entry m) (m ∷ []) []) ++ option_to_list o) (find-append (λ x. not (is_entry x)) L (m ∷ []) ∙ none_or (find (λ x. not (is_entry x)) L) (cond (not (is_entry m)) (Some m) None) (no_arrival L only))
    ∙ last_step (is_entry m))
  where
    none_or : (o q : Option Move) → o ≡ None → option_or o q ≡ q
    none_or None q h = refl
    none_or (Some x) q h = cc

    last_step : (b : Bool) → (L ++ cond b (m ∷ []) []) ++ option_to_list (cond (not b) (Some m) None) ≡ L ++ m ∷ []
    last_step true = append-nil (L ++ m ∷ [])
    last_step false = ap (λ K. K ++ m ∷ []) (append-nil L)

wholes_push : (T : List Move) (m : Move) → MovesInOrder T m → Enters T → ((v : ℕ) → Whole (moves_of v T)) → (v : ℕ) → Whole (moves_of v (T ++ m ∷ []))
wholes_push T m turn so_far whole v = push_step (eqb_tells m.vehicle v)
  where
    push_step : ((eqb m.vehicle v ≡ true) × (m.vehicle ≡ v)) ⊎ ((eqb m.vehicle v ≡ false) × (m.vehicle ≢ v)) → Whole (moves_of v (T ++ m ∷ []))
    push_step (inl (s, same)) =
        subst Whole (sym (moves_of-append v T (m ∷ []) ∙ ap (λ L. moves_of v T ++ L) (own_move v m same)))
        (whole_push (moves_of v T) m (subst (λ w. filter is_entry (moves_of w T) ≡ moves_of w T) same (only_entered T m turn so_far)))
    push_step (inr (s, other)) = subst Whole (sym (moves_of-append v T (m ∷ []) ∙ ap (λ L. moves_of v T ++ L) (other_move v m other) ∙ append-nil (moves_of v T))) (whole v)

wholes_all : (p : Plan) (M U : List Move) → Follows (Fits p) U M → Enters U → ((v : ℕ) → Whole (moves_of v U)) → (v : ℕ) → Whole (moves_of v (U ++ M))
wholes_all p [] U f e w = subst (λ L. (v : ℕ) → Whole (moves_of v L)) (sym (append-nil U)) w
wholes_all p (m ∷ M) U f e w = subst (λ L. (v : ℕ) → Whole (moves_of v L)) (append_assoc U (m ∷ []) M) (wholes_all p M (U ++ m ∷ []) f.1 (enters_push U m f.0.0 e) (wholes_push U m f.0.0 e w))

nothing_whole : (v : ℕ) → Whole (moves_of v [])
unfolding moves_of
nothing_whole v = refl

pub arrival_is_last : ArrivalIsLast
arrival_is_last p t v = wholes_all p (trace_after p t) [] (trace-follows p t) nothing_enters nothing_whole v
