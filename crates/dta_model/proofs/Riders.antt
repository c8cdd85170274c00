-- What riders tell of their moves.
use Rattle.std.specs.Prelude.{filter, find, ◌≢◌, drop, option_map, slice_get, suc, unwrap_or, zero}
use Rattle.std.proofs.Common.{◌≡◌, ℕ, ◌≤◌, Bool, true, false, cond, not, List, [], ◌∷◌, ◌++◌, length, map, refl, ap, sym, ◌∙◌, subst, arith, append_assoc, append-nil, Option, Some, None, ◌⊎◌, inl, inr}
use Rattle.std.proofs.lemmas.Bool.{eq-eqb, ne_eqb}
use Rattle.std.proofs.lemmas.Bool.Decides.{eqb_tells}
use Rattle.std.proofs.lemmas.List.Elements.{filter-append}
use Rattle.std.proofs.lemmas.List.Sums.{length-filter, count_by-le-length}
use Rattle.std.proofs.Math.Dec.{eqb}
use Rattle.dta_model.specs.declared.plan.Plan.{Plan}
use Rattle.dta_model.specs.Laws.{MovesInOrder}
use Rattle.dta_model.specs.Loading.{is_entry, trace_after}
use Rattle.dta_model.specs.State.{leads_onto}
use Rattle.dta_model.specs.Trace.{Move, last_move, last_moves, moves_of}
use Rattle.std.specs.List.{last_or}
use Rattle.dta_model.proofs.Pushes.{last_move-own, last_move-other, moves_of-append}
use Rattle.dta_model.proofs.Standing.{in-queue}
use Rattle.dta_model.proofs.NoMoves.{no-moves}
use Rattle.dta_model.proofs.Conserved.{link_onto}
use Rattle.dta_model.proofs.InOrder.{Follows, Fits, trace-follows}

pub own_move : (v : ℕ) (m : Move) → m.vehicle ≡ v → moves_of v (m ∷ []) ≡ m ∷ []
unfolding moves_of
own_move v m same = rw (eq-eqb m.vehicle v same) refl

pub other_move : (v : ℕ) (m : Move) → m.vehicle ≢ v → moves_of v (m ∷ []) ≡ []
unfolding moves_of
other_move v m other = rw (ne_eqb m.vehicle v other) refl

pub last_push : {X : Type 0} (o : Option X) (xs : List X) (x : X) → last_or o (xs ++ x ∷ []) ≡ Some x
last_push o [] x = refl
last_push o (y ∷ xs) x = last_push (Some y) xs x

pub last_map : (o : Option Move) (xs : List Move) → last_or (option_map (λ m. m.step) o) (map (λ m. m.step) xs) ≡ option_map (λ m. m.step) (last_or o xs)
last_map o [] = refl
last_map o (x ∷ xs) = last_map (Some x) xs

-- the last move is the last of the vehicle's moves
last_is : (v : ℕ) (M U : List Move) → last_move v U ≡ last_or None (moves_of v U) → last_move v (U ++ M) ≡ last_or None (moves_of v (U ++ M))
last_is v [] U h = ap (λ L. last_move v L) (append-nil U) ∙ h ∙ sym (ap (λ L. last_or None (moves_of v L)) (append-nil U))
last_is v (m ∷ M) U h =
    ap (λ L. last_move v L) (sym (append_assoc U (m ∷ []) M)) ∙ last_is v M (U ++ m ∷ []) (pushed (eqb_tells m.vehicle v)) ∙ ap (λ L. last_or None (moves_of v L)) (append_assoc U (m ∷ []) M)
  where
    pushed : ((eqb m.vehicle v ≡ true) × (m.vehicle ≡ v)) ⊎ ((eqb m.vehicle v ≡ false) × (m.vehicle ≢ v)) → last_move v (U ++ m ∷ []) ≡ last_or None (moves_of v (U ++ m ∷ []))
    pushed (inl (s, same)) =
        subst (λ w. last_move w (U ++ m ∷ []) ≡ Some m) same (last_move-own U m)
        ∙ sym (ap (λ L. last_or None L) (moves_of-append v U (m ∷ []) ∙ ap (λ L. moves_of v U ++ L) (own_move v m same)) ∙ last_push None (moves_of v U) m)
    pushed (inr (s, other)) =
        last_move-other U m v other ∙ h
        ∙ sym (ap (λ L. last_or None L) (moves_of-append v U (m ∷ []) ∙ ap (λ L. moves_of v U ++ L) (other_move v m other) ∙ append-nil (moves_of v U)))

nothing_last : (v : ℕ) → last_move v [] ≡ last_or None (moves_of v [])
unfolding last_move last_moves moves_of
nothing_last v = refl

pub last_move_is : (v : ℕ) (T : List Move) → last_move v T ≡ last_or None (moves_of v T)
last_move_is v T = last_is v T [] (nothing_last v)

-- who is on a link only entered links so far
abbrev pub Enters : List Move → Type 0
Enters T = (v : ℕ) → leads_onto (last_move v T) ≡ true → filter is_entry (moves_of v T) ≡ moves_of v T

pub enters_push : (T : List Move) (m : Move) → MovesInOrder T m → Enters T → Enters (T ++ m ∷ [])
enters_push T m turn so_far v h = push_step (eqb_tells m.vehicle v)
  where
    old : moves_of m.vehicle T ≡ moves_of m.vehicle T → MovesInOrder T m → filter is_entry (moves_of m.vehicle T) ≡ moves_of m.vehicle T
    old r (inl none) = rw (no-moves m.vehicle T none) refl
    old r (inr (l, e)) = let x = in-queue l T 0 m.vehicle e in so_far m.vehicle (ap leads_onto (x.1) ∙ link_onto l (x.0).target (x.2))

    one_entry : (b : Bool) → b ≡ true → cond b (m ∷ []) [] ≡ m ∷ []
    one_entry true e = refl
    one_entry false e = cc

    push_step : ((eqb m.vehicle v ≡ true) × (m.vehicle ≡ v)) ⊎ ((eqb m.vehicle v ≡ false) × (m.vehicle ≢ v)) → filter is_entry (moves_of v (T ++ m ∷ [])) ≡ moves_of v (T ++ m ∷ [])
    push_step (inl (s, same)) =
        let parts : moves_of v (T ++ m ∷ []) ≡ moves_of v T ++ m ∷ [] = moves_of-append v T (m ∷ []) ∙ ap (λ L. moves_of v T ++ L) (own_move v m same) in
        let entry : is_entry m ≡ true = sym (ap leads_onto (subst (λ w. last_move w (T ++ m ∷ []) ≡ Some m) same (last_move-own T m))) ∙ h in
        let before : filter is_entry (moves_of v T) ≡ moves_of v T = subst (λ w. filter is_entry (moves_of w T) ≡ moves_of w T) same (old refl turn) in
        ap (λ L. filter is_entry L) parts ∙ filter-append is_entry (moves_of v T) (m ∷ []) ∙ ap (λ L. L ++ cond (is_entry m) (m ∷ []) []) before ∙ ap (λ L. moves_of v T ++ L) (one_entry (is_entry m) entry) ∙ sym parts
    push_step (inr (s, other)) =
        let parts : moves_of v (T ++ m ∷ []) ≡ moves_of v T = moves_of-append v T (m ∷ []) ∙ ap (λ L. moves_of v T ++ L) (other_move v m other) ∙ append-nil (moves_of v T) in
        ap (λ L. filter is_entry L) parts ∙ so_far v (ap leads_onto (sym (last_move-other T m v other)) ∙ h) ∙ sym parts

enters_all : (p : Plan) (M U : List Move) → Follows (Fits p) U M → Enters U → Enters (U ++ M)
enters_all p [] U f e = subst Enters (sym (append-nil U)) e
enters_all p (m ∷ M) U f e = subst Enters (append_assoc U (m ∷ []) M) (enters_all p M (U ++ m ∷ []) f.1 (enters_push U m f.0.0 e))

pub nothing_enters : Enters []
unfolding moves_of
nothing_enters v h = refl

pub enters : (p : Plan) (t : ℕ) → Enters (trace_after p t)
enters p t = enters_all p (trace_after p t) [] (trace-follows p t) nothing_enters

pub no_arrival : (L : List Move) → filter is_entry L ≡ L → find (λ m. not (is_entry m)) L ≡ None
no_arrival [] h = refl
no_arrival (m ∷ L) h = arrival_step (is_entry m) refl h (no_arrival L)
  where
    longer : (x : Move) (xs ys : List Move) → length xs ≤ length ys → xs ≡ x ∷ ys → ⊥
    longer x xs ys l e = let k = ap (λ z. length z) e in omega (arith, l, k)

    shorter : (xs : List Move) → length (filter is_entry xs) ≤ length xs
    shorter xs = let f = length-filter is_entry xs in let g = count_by-le-length is_entry xs in omega (arith, f, g)

    arrival_step : (b : Bool) → b ≡ is_entry m → cond b (m ∷ filter is_entry L) (filter is_entry L) ≡ m ∷ L → (filter is_entry L ≡ L → find (λ x. not (is_entry x)) L ≡ None) → cond (not b) (Some m) (find (λ x. not (is_entry x)) L) ≡ None
    arrival_step true r e ih = ih (tail_same e)
      where
        tail_same : m ∷ filter is_entry L ≡ m ∷ L → filter is_entry L ≡ L
        tail_same e = cc
    arrival_step false r e ih = absurd (longer m (filter is_entry L) L (shorter L) e)

-- what is ahead from a place on: its first is what stands at the place
pub first_ahead : {X : Type 0} (k : ℕ) (xs : List X) → slice_get (drop k xs) 0 ≡ slice_get xs k
first_ahead zero [] = refl
first_ahead zero (x ∷ xs) = refl
first_ahead (suc k) [] = refl
first_ahead (suc k) (x ∷ xs) = first_ahead k xs

-- and behind it are those from the next place on
pub some_ahead : {X : Type 0} (k : ℕ) (xs : List X) (x : X) → slice_get xs k ≡ Some x
    → drop k xs ≡ x ∷ drop (suc k) xs
some_ahead zero (y ∷ xs) x h = ap (λ o. unwrap_or o y ∷ xs) h
some_ahead (suc k) (y ∷ xs) x h = some_ahead k xs x h
some_ahead zero [] x h = cc
some_ahead (suc k) [] x h = cc

pub none_ahead : {X : Type 0} (k : ℕ) (xs : List X) → slice_get xs k ≡ None → drop k xs ≡ []
none_ahead zero [] h = refl
none_ahead zero (x ∷ xs) h = cc
none_ahead (suc k) [] h = refl
none_ahead (suc k) (x ∷ xs) h = none_ahead k xs h
