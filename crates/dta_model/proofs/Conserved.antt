-- Each vehicle is at one place, and the places add up.
use Rattle.std.specs.Prelude.{filter, find, slice_get, All, ◌≢◌, count_by}
use Rattle.std.proofs.Common.{◌≡◌, ℕ, zero, suc, ◌+◌, ◌<◌, length, Bool, true, false, cond, ◌&&◌, not, List, [], ◌∷◌, refl, ap, sym, ◌∙◌, subst, arith, Option, Some, None, ◌⊎◌, inl, inr}
use Rattle.std.proofs.lemmas.Bool.{eqb-true, eq-eqb, and_parts, cases_Bool}
use Rattle.std.proofs.lemmas.Bool.Decides.{eqb_tells}
use Rattle.std.proofs.lemmas.List.Sums.{sum_by-cons}
use Rattle.std.proofs.lemmas.List.Elements.{All-weaker}
use Rattle.std.proofs.Math.Dec.{eqb}
use Rattle.dta_model.specs.declared.plan.Plan.{Plan}
use Rattle.dta_model.specs.Laws.{IsConserved}
use Rattle.dta_model.specs.Loading.{is_onto}
use Rattle.dta_model.specs.Plans.{vehicles_of}
use Rattle.dta_model.specs.Sound.{IsSound}
use Rattle.dta_model.specs.State.{arrived_in, due_after, has_arrived, is_due, leads_onto, leads_out, running_in, runs, waiting_in, waits}
use Rattle.dta_model.specs.Trace.{Arrived, Move, Onto, Target, has_moved, is_link, is_of, last_move, last_moves, leads_to, queue_of}
use Rattle.dta_model.proofs.Queues.{vehicles, absent, distinct, queue-distinct}
use Rattle.dta_model.proofs.Standing.{in-queue, no-last, present}
use Rattle.dta_model.proofs.Places.{of_mover}
use Rattle.dta_model.proofs.Fuel.{Lawful, last_in, has_moved-if}

clash : (b : Bool) → b ≡ true → b ≡ false → ⊥
clash b e f = let g : true ≡ false = sym e ∙ f in cc

-- who is the vehicle of a move that passes stands among those that pass
found_at : (p : Move → Bool) (v : ℕ) (L : List Move) (x : Move) → find (is_of v) L ≡ Some x → p x ≡ true → (i : ℕ) × (slice_get (vehicles (filter p L)) i ≡ Some v)
found_at p v [] x f h = cc
found_at p v (y ∷ L) x f h = found_step (eqb_tells y.vehicle v) (cases_Bool (p y)) (found_at p v L x)
  where
    some_move : (a b : Move) → Some a ≡ Some b → a ≡ b
    some_move a b e = cc

    found_step : ((eqb y.vehicle v ≡ true) × (y.vehicle ≡ v)) ⊎ ((eqb y.vehicle v ≡ false) × (y.vehicle ≢ v)) → (p y ≡ true) ⊎ (p y ≡ false) → (find (is_of v) L ≡ Some x → p x ≡ true → (i : ℕ) × (slice_get (vehicles (filter p L)) i ≡ Some v)) → (i : ℕ) × (slice_get (vehicles (filter p (y ∷ L))) i ≡ Some v)
    found_step (inl (s, same)) (inl c) ih = (0, rw c (ap (λ w. Some w) same))
    found_step (inl (s, same)) (inr c) ih =
        let first : cond (eqb y.vehicle v) (Some y) (find (is_of v) L) ≡ Some x = f in
        let e : y ≡ x = some_move y x (sym (ap (λ b. cond b (Some y) (find (is_of v) L)) s) ∙ first) in
        absurd (clash (p x) h (ap p (sym e) ∙ c))
    found_step (inr (s, other)) (inl c) ih =
        let first : cond (eqb y.vehicle v) (Some y) (find (is_of v) L) ≡ Some x = f in
        let rest = ih (sym (ap (λ b. cond b (Some y) (find (is_of v) L)) s) ∙ first) h in (suc (rest.0), rw c (rest.1))
    found_step (inr (s, other)) (inr c) ih =
        let first : cond (eqb y.vehicle v) (Some y) (find (is_of v) L) ≡ Some x = f in
        let rest = ih (sym (ap (λ b. cond b (Some y) (find (is_of v) L)) s) ∙ first) h in (rest.0, rw c (rest.1))

onto_link : (x : Target) → is_onto x ≡ true → (l : ℕ) × (x ≡ Onto l)
onto_link (Onto l) h = (l, refl)
onto_link Arrived h = cc

pub link_onto : (l : ℕ) (x : Target) → is_link l x ≡ true → is_onto x ≡ true
link_onto l (Onto b) h = refl
link_onto l Arrived h = cc

pub one_link : (l k : ℕ) (x : Target) → is_link l x ≡ true → is_link k x ≡ true → l ≡ k
one_link l k (Onto b) h e = sym (eqb-true b l h) ∙ eqb-true b k e
one_link l k Arrived h e = cc

on_own : (l : ℕ) (x : Target) → x ≡ Onto l → is_link l x ≡ true
on_own l x e = subst (λ y. is_link l y ≡ true) (sym e) (eq-eqb l l refl)

-- distinct numbers stand once
once_at : (xs : List ℕ) (i j v : ℕ) → distinct xs ≡ true → slice_get xs i ≡ Some v → slice_get xs j ≡ Some v → i ≡ j
once_at [] i j v d h e = cc
once_at (x ∷ xs) zero zero v d h e = refl
once_at (x ∷ xs) zero (suc j) v d h e =
    let parts = and_parts (absent x xs) (distinct xs) d in
    let same : x ≡ v = cc in
    absurd (clash (absent v xs) (subst (λ w. absent w xs ≡ true) same parts.0) (present xs j v e))
once_at (x ∷ xs) (suc i) zero v d h e =
    let parts = and_parts (absent x xs) (distinct xs) d in
    let same : x ≡ v = cc in
    absurd (clash (absent v xs) (subst (λ w. absent w xs ≡ true) same parts.0) (present xs i v h))
once_at (x ∷ xs) (suc i) (suc j) v d h e = ap suc (once_at xs i j v (and_parts (absent x xs) (distinct xs) d).1 h e)

-- three counts that share out a fourth
count_three : (f g h d : ℕ → Bool) → ((v : ℕ) → cond (f v) 1 0 + cond (g v) 1 0 + cond (h v) 1 0 ≡ cond (d v) 1 0) → (xs : List ℕ) → count_by f xs + count_by g xs + count_by h xs ≡ count_by d xs
count_three f g h d e [] = refl
count_three f g h d e (x ∷ xs) =
    let a = sum_by-cons (λ v. cond (f v) 1 0) x xs in
    let b = sum_by-cons (λ v. cond (g v) 1 0) x xs in
    let c = sum_by-cons (λ v. cond (h v) 1 0) x xs in
    let k = sum_by-cons (λ v. cond (d v) 1 0) x xs in
    let one = e x in
    let rest = count_three f g h d e xs in
    omega (arith, a, b, c, k, one, rest)

module _ (p : Plan) (t : ℕ) (T : List Move) (law : All (Lawful p t) T) where
  pub mover_due : (v : ℕ) → has_moved v T ≡ true → is_due p t v ≡ true
  mover_due v h = of_mover (λ w. is_due p t w ≡ true) v T (All-weaker (Lawful p t) (λ m. is_due p t m.vehicle ≡ true) (λ m a. a.due) T law) h

  place_step : (v : ℕ) (d : Bool) (c : Bool) (o : Option Move) → (c ≡ false → o ≡ None) → (c ≡ true → (x : Move) × (o ≡ Some x)) → cond (d && not c) 1 0 + cond (d && leads_onto o) 1 0 + cond (d && leads_out o) 1 0 ≡ cond d 1 0
  place_step v false c o none some = refl
  place_step v true false o none some = rw (none refl) refl
  place_step v true true o none some = let x = some refl in rw (x.1) (onto_or_out (is_onto (x.0).target))
    where
      onto_or_out : (b : Bool) → 0 + cond b 1 0 + cond (not b) 1 0 ≡ 1
      onto_or_out true = refl
      onto_or_out false = refl

  last_some : (v : ℕ) → has_moved v T ≡ true → (x : Move) × (last_move v T ≡ Some x)
  last_some v h = let y = last_in (λ m. is_due p t m.vehicle ≡ true) v T [] (All-weaker (Lawful p t) (λ m. is_due p t m.vehicle ≡ true) (λ m a. a.due) T law) h in (y.0, y.1)

  totals_of : waiting_in p t T + running_in p t T + arrived_in p t T ≡ due_after p t
  unfolding waiting_in running_in arrived_in due_after waits runs has_arrived
  totals_of = count_three (λ v. is_due p t v && not (has_moved v T)) (λ v. is_due p t v && leads_onto (last_move v T)) (λ v. is_due p t v && leads_out (last_move v T)) (is_due p t)
      (λ v. place_step v (is_due p t v) (has_moved v T) (last_move v T) (no-last v T) (last_some v)) (vehicles_of p)

  stands_of : (v : ℕ) → runs T v ≡ true → (l : ℕ) × (i : ℕ) × (slice_get (queue_of l T) i ≡ Some v)
  unfolding runs last_move queue_of
  stands_of v h = stands_step (find (is_of v) (last_moves T)) refl h
    where
      stands_step : (o : Option Move) → find (is_of v) (last_moves T) ≡ o → leads_onto o ≡ true → (l : ℕ) × (i : ℕ) × (slice_get (vehicles (filter (leads_to l) (last_moves T))) i ≡ Some v)
      stands_step None e f = cc
      stands_step (Some x) e f = let l = onto_link x.target f in let y = found_at (leads_to (l.0)) v (last_moves T) x e (on_own (l.0) x.target (l.1)) in (l.0, y.0, y.1)

  moving_of : (l i v : ℕ) → slice_get (queue_of l T) i ≡ Some v → (is_due p t v ≡ true) × (runs T v ≡ true)
  unfolding runs
  moving_of l i v h = let x = in-queue l T i v h in (mover_due v (has_moved-if v T (x.0) (x.1)), ap leads_onto (x.1) ∙ link_onto l (x.0).target (x.2))

  once_of : (l k i j v : ℕ) → slice_get (queue_of l T) i ≡ Some v → slice_get (queue_of k T) j ≡ Some v → (l ≡ k) × (i ≡ j)
  once_of l k i j v h e =
      let x = in-queue l T i v h in
      let y = in-queue k T j v e in
      let same : x.0 ≡ y.0 = some_move (x.0) (y.0) (sym (x.1) ∙ y.1) in
      let links : l ≡ k = one_link l k (y.0).target (subst (λ z. leads_to l z ≡ true) same (x.2)) (y.2) in
      (links, once_at (queue_of k T) i j v (queue-distinct k T) (subst (λ q. slice_get (queue_of q T) i ≡ Some v) links h) e)
    where
      some_move : (a b : Move) → Some a ≡ Some b → a ≡ b
      some_move a b e = cc

  due_of : (v : ℕ) → is_due p t v ≡ false → waits T v ≡ true
  unfolding waits
  due_of v h = due_step (cases_Bool (has_moved v T))
    where
      due_step : (has_moved v T ≡ true) ⊎ (has_moved v T ≡ false) → not (has_moved v T) ≡ true
      due_step (inl e) = absurd (clash (is_due p t v) (mover_due v e) h)
      due_step (inr e) = rw e refl

  pub conserved : (IsSound p → (l i v : ℕ) → slice_get (queue_of l T) i ≡ Some v → l < length p.net.links) → IsConserved p t T
  conserved within = record {
    due = due_of;
    totals = totals_of;
    stands = stands_of;
    once = once_of;
    moving = moving_of;
    within = within;
  }
