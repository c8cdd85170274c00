-- Where nothing binds each move comes in the step in which its vehicle is ready.
use Rattle.std.specs.List.{last_or, list_any}
use Rattle.std.specs.Prelude.{All, slice_get}
use Rattle.std.proofs.Common.{◌≡◌, ◌⊎◌, inl, inr, ℕ, zero, suc, ◌+◌, ◌<◌, ◌≤◌}
use Rattle.std.proofs.Common.{true, false, List, [], ◌∷◌, ◌++◌, length, refl, ap, sym, ◌∙◌}
use Rattle.std.proofs.Common.{subst, arith, get_or, Some, None, append_assoc, append-nil}
use Rattle.std.proofs.lemmas.Bool.{cases_lt}
use Rattle.std.proofs.lemmas.List.Elements.{All-append, All-head, All-nil, All-tail}
use Rattle.dta_model.specs.LinkTimes.{penalty_to}
use Rattle.dta_model.specs.Loading.{after_step, trace_after}
use Rattle.dta_model.specs.Plans.{departure_of, first_link, link_at}
use Rattle.dta_model.specs.Plans.{route_of, vehicle_count}
use Rattle.dta_model.specs.Sound.{IsSound}
use Rattle.dta_model.specs.Trace.{Move, Onto, has_moved, last_move}
use Rattle.dta_model.specs.Trace.{moves_of}
use Rattle.dta_model.specs.declared.plan.Plan.{Plan}
use Rattle.dta_model.proofs.Journeys.{routes_are_followed, steps_below}
use Rattle.dta_model.proofs.Pushes.{has_moved_is, moves_of-append}
use Rattle.dta_model.proofs.Riders.{last_move_is}
use Rattle.dta_model.proofs.Steady.{all_at}
use Rattle.dta_model.proofs.Totals.{target_place}
use Rattle.link_times.proofs.TravelTimes.{Lasts}
use Rattle.traffic_laws.proofs.Journeying.{all_own, next_lasts, next_later, own_not_early}
use Rattle.traffic_laws.proofs.OnTime.{OnTime, moves_now, on_time}
use Rattle.traffic_laws.specs.FreeFlow.{NothingBinds}
use Rattle.traffic_laws.specs.FreeFlow.{moves_in}

-- ---- a trace up to a step, and what comes from that step on
record Cut (p : Plan) (t u : ℕ) : Type 0 where
  rest : List Move
  is : trace_after p u ≡ trace_after p t ++ rest
  late : All (λ m. t ≤ m.step) rest

cut_all : (p : Plan) (t u : ℕ) → u ≡ t → Cut p t u
cut_all p t u e = record {
  rest = [];
  is = ap (trace_after p) e ∙ sym (append-nil (trace_after p t));
  late = All-nil (λ m. t ≤ m.step);
}

cut : (p : Plan) (t u : ℕ) → t ≤ u → Cut p t u
unfolding trace_after after_step
cut p t zero h = cut_all p t 0 (omega (arith, h))
cut p t (suc u) h = by (cases_lt u t) (cut p t u)
  where
    by : (u < t) ⊎ (t ≤ u) → (t ≤ u → Cut p t u) → Cut p t (suc u)
    by (inl less) ih = cut_all p t (suc u) (omega (arith, less, h))
    by (inr k) ih =
        let c = ih k in
        record {
          rest = c.rest ++ moves_in p u;
          is = ap (λ L. L ++ moves_in p u) c.is
              ∙ append_assoc (trace_after p t) c.rest (moves_in p u);
          late = All-append (λ m. t ≤ m.step) c.rest (moves_in p u) c.late
              (λ i d j. from (get_or (moves_in p u) i d).step (moves_now p u i d j));
        }
      where
        from : (x : ℕ) → x ≡ u → t ≤ x
        from x e = omega (arith, e, k)

-- an element of two lists is in the first, or behind it in the second
got_part : (P Q : Move → Type 0) (xs ys : List Move) (i : ℕ) (x : Move) → All P xs → All Q ys
    → slice_get (xs ++ ys) i ≡ Some x
    → ((i < length xs) × (slice_get xs i ≡ Some x) × P x) ⊎ ((length xs ≤ i) × Q x)
got_part P Q [] ys i x p q e = inr (omega arith, all_at Q ys i x q e)
got_part P Q (y ∷ xs) ys zero x p q e =
    let same : y ≡ x = cc in inl (omega arith, e, subst P same (All-head P y xs p))
got_part P Q (y ∷ xs) ys (suc i) x p q e = by (got_part P Q xs ys i x (All-tail P y xs p) q e)
  where
    by : ((i < length xs) × (slice_get xs i ≡ Some x) × P x) ⊎ ((length xs ≤ i) × Q x)
        → ((suc i < suc (length xs)) × (slice_get xs i ≡ Some x) × P x)
        ⊎ ((suc (length xs) ≤ suc i) × Q x)
    by (inl r) = let h = r.0 in inl (omega (arith, h), r.1, r.2)
    by (inr r) = let h = r.0 in inr (omega (arith, h), r.1)

last_from : (x : Move) (L : List Move) (j : ℕ) (a : Move) → suc j ≡ length (x ∷ L)
    → slice_get (x ∷ L) j ≡ Some a → last_or (Some x) L ≡ Some a
last_from x [] zero a h e = e
last_from x [] (suc j) a h e = absurd (omega (arith, h))
last_from x (y ∷ L) zero a h e = absurd (omega (arith, h))
last_from x (y ∷ L) (suc j) a h e = last_from y L j a (omega (arith, h)) e

pub last_is : (L : List Move) (j : ℕ) (a : Move) → suc j ≡ length L → slice_get L j ≡ Some a
    → last_or None L ≡ Some a
last_is [] j a h e = cc
last_is (x ∷ L) j a h e = last_from x L j a h e

nothing : (L : List Move) → length L ≤ 0 → L ≡ []
nothing [] h = refl
nothing (x ∷ L) h = absurd (omega (arith, h))

pub not_here : (v : ℕ) (T : List Move) → moves_of v T ≡ [] → has_moved v T ≡ false
not_here v T e = has_moved_is v T ∙ ap (λ L. list_any (λ _. true) L) e

module _ (p : Plan) (sound : IsSound p) (wait : ℕ → ℕ) (binds : NothingBinds p wait) where
  module _ (v : ℕ) where
    abbrev own : List Move
    own = moves_of v (trace_after p p.horizon)

    early : (i : ℕ) (b : Move) → slice_get own i ≡ Some b → b.step < p.horizon
    early i b e =
        (all_at (λ m. (m.step < p.horizon) × (m.vehicle ≡ v)) own i b
        (all_own (λ m. m.step < p.horizon) v (trace_after p p.horizon)
        (steps_below p p.horizon)) e).0

    -- the moves before a step
    before : (t : ℕ) → t ≤ p.horizon → (i : ℕ) (b : Move) → slice_get own i ≡ Some b
        → ((i < length (moves_of v (trace_after p t)))
        × (slice_get (moves_of v (trace_after p t)) i ≡ Some b) × (b.step < t))
        ⊎ ((length (moves_of v (trace_after p t)) ≤ i) × (t ≤ b.step))
    before t h i b e =
        let c = cut p t p.horizon h in
        by (got_part (λ m. (m.step < t) × (m.vehicle ≡ v)) (λ m. (t ≤ m.step) × (m.vehicle ≡ v))
        (moves_of v (trace_after p t)) (moves_of v c.rest) i b
        (all_own (λ m. m.step < t) v (trace_after p t) (steps_below p t))
        (all_own (λ m. t ≤ m.step) v c.rest c.late)
        (ap (λ L. slice_get L i) (sym (ap (moves_of v) c.is
        ∙ moves_of-append v (trace_after p t) c.rest)) ∙ e))
      where
        by : ((i < length (moves_of v (trace_after p t)))
            × (slice_get (moves_of v (trace_after p t)) i ≡ Some b)
            × ((b.step < t) × (b.vehicle ≡ v)))
            ⊎ ((length (moves_of v (trace_after p t)) ≤ i) × ((t ≤ b.step) × (b.vehicle ≡ v)))
            → ((i < length (moves_of v (trace_after p t)))
            × (slice_get (moves_of v (trace_after p t)) i ≡ Some b) × (b.step < t))
            ⊎ ((length (moves_of v (trace_after p t)) ≤ i) × (t ≤ b.step))
        by (inl r) = inl (r.0, r.1, r.2.0)
        by (inr r) = inr (r.0, r.1.0)

    -- a vehicle moves on as soon as its link is behind it
    no_later : (j l : ℕ) (a b : Move) → slice_get own j ≡ Some a → slice_get own (suc j) ≡ Some b
        → a.target ≡ Onto l → b.step ≤ a.step + (link_at p l).free + wait l
    no_later j l a b e f on =
        let h : b.step ≤ p.horizon = let k = early (suc j) b f in omega (arith, k) in
        by (before b.step h j a e) (before b.step h (suc j) b f)
        (next_later p sound p.horizon v j a b e f) (on_time p sound wait binds b.step h)
      where
        by : ((j < length (moves_of v (trace_after p b.step)))
            × (slice_get (moves_of v (trace_after p b.step)) j ≡ Some a) × (a.step < b.step))
            ⊎ ((length (moves_of v (trace_after p b.step)) ≤ j) × (b.step ≤ a.step))
            → ((suc j < length (moves_of v (trace_after p b.step)))
            × (slice_get (moves_of v (trace_after p b.step)) (suc j) ≡ Some b) × (b.step < b.step))
            ⊎ ((length (moves_of v (trace_after p b.step)) ≤ suc j) × (b.step ≤ b.step))
            → a.step < b.step → OnTime p wait b.step (trace_after p b.step)
            → b.step ≤ a.step + (link_at p l).free + wait l
        by (inr r) other less time = let k = r.1 in absurd (omega (arith, k, less))
        by (inl r) (inl s) less time = let k = s.2 in absurd (omega (arith, k))
        by (inl r) (inr s) less time =
            let x = r.0 in
            let y = s.0 in
            let last : last_move v (trace_after p b.step) ≡ Some a =
            last_move_is v (trace_after p b.step)
            ∙ last_is (moves_of v (trace_after p b.step)) j a (omega (arith, x, y)) (r.1) in
            time.ready v l a last on

    -- the penalty of the turn that it takes is that of all who leave the link
    penalty_is : (j l : ℕ) (a b : Move) → slice_get own j ≡ Some a → slice_get own (suc j) ≡ Some b
        → a.target ≡ Onto l → penalty_to p l b.target ≡ wait l
    penalty_is j l a b e f on =
        let place : slice_get (route_of p v) j ≡ Some l =
        target_place (slice_get (route_of p v) j) l
        (sym (routes_are_followed p p.horizon v j a e) ∙ on) in
        ap (penalty_to p l) (routes_are_followed p p.horizon v (suc j) b f)
        ∙ binds.penalties v j l place

    pub exact_next : (j l : ℕ) (a b : Move) → slice_get own j ≡ Some a
        → slice_get own (suc j) ≡ Some b → a.target ≡ Onto l
        → b.step ≡ a.step + (link_at p l).free + penalty_to p l b.target
    exact_next j l a b e f on =
        let most = no_later j l a b e f on in
        let long = next_lasts p p.horizon v j a b e f in
        let least = subst (λ q. Lasts p (record a { target = q }) b) on long in
        let same = penalty_is j l a b e f on in
        omega (arith, most, least, same)

    -- the first move is made in the step of the departure
    pub exact_first : (b : ℕ) (a : Move) → v < vehicle_count p → first_link p v ≡ Some b
        → slice_get own 0 ≡ Some a → a.step ≡ departure_of p v
    exact_first b a below first e =
        let h : a.step ≤ p.horizon = let k = early 0 a e in omega (arith, k) in
        let least = own_not_early p v 0 a.step (record { move = a; there = e; is = refl }) in
        let most = by (before a.step h 0 a e) (on_time p sound wait binds a.step h) in
        omega (arith, least, most)
      where
        by : ((0 < length (moves_of v (trace_after p a.step)))
            × (slice_get (moves_of v (trace_after p a.step)) 0 ≡ Some a) × (a.step < a.step))
            ⊎ ((length (moves_of v (trace_after p a.step)) ≤ 0) × (a.step ≤ a.step))
            → OnTime p wait a.step (trace_after p a.step) → a.step ≤ departure_of p v
        by (inl r) time = let k = r.2 in absurd (omega (arith, k))
        by (inr r) time =
            time.waits v b below first
            (not_here v (trace_after p a.step) (nothing (moves_of v (trace_after p a.step)) (r.0)))

    -- and a last move onto a link wasn't ready to be followed before the horizon
    pub exact_last : (l : ℕ) (e : Move) → last_or None own ≡ Some e → e.target ≡ Onto l
        → p.horizon ≤ e.step + (link_at p l).free + wait l
    exact_last l e last on =
        (on_time p sound wait binds p.horizon (omega arith)).ready v l e
        (last_move_is v (trace_after p p.horizon) ∙ last) on
