-- Who leaves the network from a link has it last in the route.
use Rattle.std.specs.Prelude.{All, count_by, nat_eq, slice_get, ◌≢◌}
use Rattle.std.proofs.Common.{◌≡◌, ◌⊎◌, inl, inr, ℕ, zero, suc, ◌+◌, ◌-◌, ◌<◌, Bool, true}
use Rattle.std.proofs.Common.{false}
use Rattle.std.proofs.Common.{cond, not, ◌&&◌, List, [], ◌∷◌, ◌++◌, length, refl, ap, sym, ◌∙◌}
use Rattle.std.proofs.Common.{subst}
use Rattle.std.proofs.Common.{arith, Some, None, append_assoc, append-nil}
use Rattle.std.proofs.lemmas.Bool.{cases_Bool}
use Rattle.std.proofs.lemmas.Bool.Decides.{eqb_tells}
use Rattle.std.proofs.lemmas.List.Elements.{All-head, All-tail}
use Rattle.std.proofs.Math.Dec.{eqb}
use Rattle.dta_model.specs.Laws.{MovesInOrder}
use Rattle.dta_model.specs.Loading.{is_entry, is_onto, trace_after}
use Rattle.dta_model.specs.Plans.{route_of, vehicle_count, vehicles_of}
use Rattle.dta_model.specs.Room.{leavings}
use Rattle.dta_model.specs.State.{has_arrived, leads_out}
use Rattle.dta_model.specs.Trace.{Arrived, Move, Onto, Target, has_moved, is_link, last_move}
use Rattle.dta_model.specs.Trace.{leads_there, moves_made, moves_of, next_target}
use Rattle.dta_model.specs.Trace.{stands_on}
use Rattle.dta_model.specs.declared.plan.Plan.{Plan}
use Rattle.dta_model.proofs.InOrder.{Fits, Follows}
use Rattle.dta_model.proofs.Journeys.{routes_are_followed}
use Rattle.dta_model.proofs.NoMoves.{no-moves}
use Rattle.dta_model.proofs.Onward.{onto_one}
use Rattle.dta_model.proofs.Pushes.{last_move-other, last_move-own, moves_made_is, moves_of-append}
use Rattle.dta_model.proofs.Riders.{last_move_is}
use Rattle.dta_model.proofs.Standing.{in-queue, no-last}
use Rattle.dta_model.proofs.Totals.{sum_alike, sum_both, sum_zero, target_place}
use Rattle.dta_model.proofs.Totals.{vehicle_count_one}
use Rattle.traffic_laws.proofs.Counts.{count-cons, one_if}
use Rattle.traffic_laws.proofs.NoFaster.{no_out, past}
use Rattle.traffic_laws.proofs.OnTime.{last_get}
use Rattle.traffic_laws.specs.Buckets.{is_last, last_link}

-- whether the route of a vehicle ends on a link
unfoldable pub ends : Plan → ℕ → ℕ → Bool
ends p l v = is_last l (last_link p v)

unfoldable pub arrived : Plan → ℕ → List Move → ℕ
arrived p l U = count_by (λ v. ends p l v && has_arrived U v) (vehicles_of p)

-- where the last link of a list stands
last_at : (xs : List ℕ) (k j : ℕ) → slice_get xs k ≡ Some j → slice_get xs (suc k) ≡ None
    → slice_get xs (length xs - 1) ≡ Some j
last_at xs k j e f =
    let most = past xs (suc k) f in
    let least = within xs k j e in
    let same : length xs - 1 ≡ k = omega (arith, most, least) in
    ap (slice_get xs) same ∙ e
  where
    within : (ys : List ℕ) (i x : ℕ) → slice_get ys i ≡ Some x → i < length ys
    within [] i x e = cc
    within (y ∷ ys) zero x e = omega arith
    within (y ∷ ys) (suc i) x e = let k = within ys i x e in omega (arith, k)

none_last : (xs : List ℕ) → slice_get xs 0 ≡ None → slice_get xs (length xs - 1) ≡ None
none_last [] e = refl
none_last (x ∷ xs) e = cc

got_front : (xs ys : List Move) (i : ℕ) (x : Move) → slice_get xs i ≡ Some x
    → slice_get (xs ++ ys) i ≡ Some x
got_front [] ys i x e = cc
got_front (y ∷ xs) ys zero x e = e
got_front (y ∷ xs) ys (suc i) x e = got_front xs ys i x e

-- who moves out stands on the last link of the route
out_from : (p : Plan) (t l : ℕ) (U M : List Move) (m : Move) → trace_after p t ≡ U ++ M
    → Fits p U m → m.target ≡ Arrived → stands_on l U m.vehicle ≡ ends p l m.vehicle
unfolding stands_on ends next_target
out_from p t l U M m whole fits out = by fits.0
  where
    v : ℕ
    v = m.vehicle

    end : slice_get (route_of p m.vehicle) (moves_made m.vehicle U) ≡ None
    end =
        no_out (slice_get (route_of p m.vehicle) (moves_made m.vehicle U)) (sym out ∙ fits.1)

    by : MovesInOrder U m
        → leads_there l (last_move m.vehicle U) ≡ is_last l (last_link p m.vehicle)
    by (inl never) =
        let made : moves_made m.vehicle U ≡ 0 =
        moves_made_is m.vehicle U ∙ ap (λ L. length L) (no-moves m.vehicle U never) in
        let none = none_last (route_of p m.vehicle)
        (sym (ap (slice_get (route_of p m.vehicle)) made) ∙ end) in
        ap (leads_there l) (no-last m.vehicle U never) ∙ sym (ap (is_last l) none)
    by (inr (j, first)) =
        let x = in-queue j U 0 m.vehicle first in
        let at : (x.0).target ≡ Onto j = onto_one j (x.0).target (x.2) in
        let k = last_get (moves_of m.vehicle U) (x.0) (sym (last_move_is m.vehicle U) ∙ x.1) in
        let there : slice_get (moves_of m.vehicle (trace_after p t)) (k.0) ≡ Some (x.0) =
        ap (λ L. slice_get L (k.0)) (ap (moves_of m.vehicle) whole ∙ moves_of-append m.vehicle U M)
        ∙ got_front (moves_of m.vehicle U) (moves_of m.vehicle M) (k.0) (x.0) (k.2) in
        let place : slice_get (route_of p m.vehicle) (k.0) ≡ Some j =
        target_place (slice_get (route_of p m.vehicle) (k.0)) j
        (sym (routes_are_followed p t m.vehicle (k.0) (x.0) there) ∙ at) in
        let made : moves_made m.vehicle U ≡ suc (k.0) =
        moves_made_is m.vehicle U ∙ sym (k.1) in
        let last = last_at (route_of p m.vehicle) (k.0) j place
        (sym (ap (slice_get (route_of p m.vehicle)) made) ∙ end) in
        ap (leads_there l) (x.1) ∙ ap (is_link l) at ∙ sym (ap (is_last l) last)

-- who moves hasn't arrived before
not_out : (U : List Move) (m : Move) → MovesInOrder U m → has_arrived U m.vehicle ≡ false
unfolding has_arrived
not_out U m (inl never) = ap leads_out (no-last m.vehicle U never)
not_out U m (inr (j, first)) =
    let x = in-queue j U 0 m.vehicle first in
    ap leads_out (x.1) ∙ ap (λ y. not (is_onto y)) (onto_one j (x.0).target (x.2))

one_arrives : (p : Plan) (t l : ℕ) (U M : List Move) (m : Move) → trace_after p t ≡ U ++ M
    → Fits p U m → m.vehicle < vehicle_count p
    → arrived p l (U ++ m ∷ [])
    ≡ arrived p l U + one_if (stands_on l U m.vehicle && not (is_entry m))
unfolding arrived has_arrived
one_arrives p t l U M m whole fits below =
    let old : ℕ → ℕ = λ v. one_if (ends p l v && has_arrived U v) in
    let e : Bool = ends p l m.vehicle && not (is_entry m) in
    let more : ℕ → ℕ = λ v. one_if (nat_eq m.vehicle v && e) in
    let each = sum_alike (λ v. one_if (ends p l v && has_arrived (U ++ m ∷ []) v))
    (λ v. old v + more v) (λ v. by v (eqb_tells m.vehicle v)) (vehicles_of p) in
    let both = sum_both old more (vehicles_of p) in
    let one = vehicle_count_one m.vehicle (vehicle_count p) e below in
    let same = last_step (cases_Bool (is_entry m)) in
    omega (arith, each, both, one, same)
  where
    comes : (x y z : Bool) → y ≡ false → one_if (x && z)
        ≡ one_if (x && y) + one_if (true && (x && z))
    comes true true z e = cc
    comes true false true e = refl
    comes true false false e = refl
    comes false y z e = refl

    stays : (x y z : Bool) → one_if (x && y) ≡ one_if (x && y) + one_if (false && z)
    stays true true z = refl
    stays true false z = refl
    stays false y z = refl

    by : (v : ℕ) → ((eqb m.vehicle v ≡ true) × (m.vehicle ≡ v))
        ⊎ ((eqb m.vehicle v ≡ false) × (m.vehicle ≢ v))
        → one_if (ends p l v && leads_out (last_move v (U ++ m ∷ [])))
        ≡ one_if (ends p l v && leads_out (last_move v U))
        + one_if (nat_eq m.vehicle v && (ends p l m.vehicle && not (is_entry m)))
    by v (inl (t, same)) =
        subst (λ w. one_if (ends p l w && leads_out (last_move w (U ++ m ∷ [])))
        ≡ one_if (ends p l w && leads_out (last_move w U))
        + one_if (nat_eq m.vehicle w && (ends p l m.vehicle && not (is_entry m)))) same
        (rw (last_move-own U m, t_own) (comes (ends p l m.vehicle)
        (leads_out (last_move m.vehicle U)) (not (is_entry m)) (not_out U m fits.0)))
      where
        t_own : eqb m.vehicle m.vehicle ≡ true
        t_own = subst (λ w. eqb m.vehicle w ≡ true) (sym same) t
    by v (inr (t, other)) =
        rw (last_move-other U m v other, t) (stays (ends p l v) (leads_out (last_move v U))
        (ends p l m.vehicle && not (is_entry m)))

    target_out : (x : Target) → is_onto x ≡ false → x ≡ Arrived
    target_out (Onto b) e = cc
    target_out Arrived e = refl

    last_step : (is_entry m ≡ true) ⊎ (is_entry m ≡ false)
        → one_if (ends p l m.vehicle && not (is_entry m))
        ≡ one_if (stands_on l U m.vehicle && not (is_entry m))
    last_step (inl entry) =
        rw entry (none (ends p l m.vehicle) (stands_on l U m.vehicle))
      where
        none : (x y : Bool) → one_if (x && false) ≡ one_if (y && false)
        none true true = refl
        none true false = refl
        none false true = refl
        none false false = refl
    last_step (inr out) =
        ap (λ b. one_if (b && not (is_entry m)))
        (sym (out_from p t l U M m whole fits (target_out m.target out)))

-- the leavings by which vehicles leave the network are those who arrived from the link
pub arrivals_are : (p : Plan) (t l : ℕ) (U M : List Move) → trace_after p t ≡ U ++ M
    → Follows (Fits p) U M → All (λ m. m.vehicle < vehicle_count p) M
    → arrived p l (U ++ M) ≡ arrived p l U + count_by (λ m. not (is_entry m)) (leavings l U M)
unfolding leavings
arrivals_are p t l U [] whole f below =
    let e = ap (arrived p l) (append-nil U) in omega (arith, e)
arrivals_are p t l U (m ∷ M) whole f below =
    let same = ap (arrived p l) (append_assoc U (m ∷ []) M) in
    let rest = arrivals_are p t l (U ++ m ∷ []) M (whole ∙ sym (append_assoc U (m ∷ []) M)) f.1
    (All-tail (λ x. x.vehicle < vehicle_count p) m M below) in
    let one = one_arrives p t l U (m ∷ M) m whole f.0
    (All-head (λ x. x.vehicle < vehicle_count p) m M below) in
    let here = by (stands_on l U m.vehicle) (leavings l (U ++ m ∷ []) M) in
    omega (arith, same, rest, one, here)
  where
    by : (b : Bool) (L : List Move) → count_by (λ x. not (is_entry x)) (cond b (m ∷ L) L)
        ≡ one_if (b && not (is_entry m)) + count_by (λ x. not (is_entry x)) L
    by true L = count-cons (λ x. not (is_entry x)) m L
    by false L = omega arith

pub nobody_arrived : (p : Plan) (l : ℕ) → arrived p l [] ≡ 0
unfolding arrived has_arrived has_moved
nobody_arrived p l =
    sum_alike (λ v. one_if (ends p l v && leads_out (last_move v []))) (λ v. 0)
    (λ v. ap (λ o. one_if (ends p l v && leads_out o)) (no-last v [] refl) ∙ by (ends p l v))
    (vehicles_of p) ∙ sum_zero (vehicle_count p) 0
  where
    by : (x : Bool) → one_if (x && false) ≡ 0
    by true = refl
    by false = refl
