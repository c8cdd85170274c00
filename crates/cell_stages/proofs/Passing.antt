-- What one move changes of lines and batches.
use Rattle.std.proofs.Math.Bool.{and-false}
use Rattle.std.specs.List.{list_any, range_with_len}
use Rattle.std.specs.Prelude.{count_by, nat_eq, filter, slice_get, ◌≢◌}
use Rattle.std.proofs.Common.{◌≡◌, ℕ, zero, suc, ◌+◌, ◌<◌, arith, Option, None, Bool, true, false, cond, ◌&&◌, ◌||◌, not, List, [], ◌∷◌, ◌++◌, refl, ap, sym, ◌∙◌, subst, append_assoc, append-nil, Some, drop, ◌⊎◌, inl, inr}
use Rattle.std.proofs.lemmas.Bool.{eq-eqb, eqb-true, ne_eqb, and_parts, not-true}
use Rattle.std.proofs.lemmas.Bool.Decides.{eqb_tells}
use Rattle.std.proofs.lemmas.List.{map-append}
use Rattle.std.proofs.lemmas.List.Elements.{filter-append}
use Rattle.std.proofs.lemmas.List.Sums.{sum_by-append}
use Rattle.std.proofs.Math.Dec.{eqb}
use Rattle.dta_model.specs.declared.plan.Plan.{Plan}
use Rattle.dta_model.specs.NodeMoves.{entered, is_first, left, turned}
use Rattle.dta_model.specs.Plans.{first_link, vehicle_count, vehicles_of}
use Rattle.dta_model.specs.Riders.{rider_at, riders}
use Rattle.cell_stages.specs.Stages.{brought, staying, waiting_for}
use Rattle.dta_model.specs.Trace.{Arrived, Move, Onto, Target, has_moved, is_link, is_of, last_moves, leads_there, leads_to, moves_of, queue_of, stands_on}
use Rattle.cell_stages.specs.Transfers.{LeavesLine, LeavesWaiting, MovesCount, MovesPass}
use Rattle.dta_model.proofs.Queues.{absent-filter, absent-last, vehicles, absent, distinct, one_vehicle, without, without-absent, queue-distinct, queues-apart}
use Rattle.dta_model.proofs.Pushes.{has_moved-append, moves_of-append}
use Rattle.dta_model.proofs.Standing.{in-queue, no-last, present}
use Rattle.dta_model.proofs.Fuel.{has_moved-if}
use Rattle.cell_stages.proofs.Gathering.{kept_at, map_like, rider-like}
use Rattle.dta_model.proofs.Riders.{other_move}
use Rattle.cell_stages.proofs.Riders.{filter_two}
use Rattle.std.proofs.lemmas.Option.{same_Some}

pub moved_two : (v : ℕ) (M : List Move) (m : Move) → not (has_moved v (M ++ m ∷ [])) ≡ (not (has_moved v M) && not (eqb v m.vehicle))
unfolding has_moved
moved_two v M m = ap not (has_moved-append v M (m ∷ [])) ∙ two (list_any (is_of v) M) (eqb_tells m.vehicle v)
  where
    two : (a : Bool) → ((eqb m.vehicle v ≡ true) × (m.vehicle ≡ v)) ⊎ ((eqb m.vehicle v ≡ false) × (m.vehicle ≢ v)) → not (a || (eqb m.vehicle v || false)) ≡ (not a && not (eqb v m.vehicle))
    two true x = refl
    two false (inl (s, same)) = rw (s, eq-eqb v m.vehicle (sym same)) refl
    two false (inr (s, other)) = rw (s, ne_eqb v m.vehicle (λ e. other (sym e))) refl

pub staying_push : (M : List Move) (m : Move) (Q : List ℕ) → staying (M ++ m ∷ []) Q ≡ without m.vehicle (staying M Q)
staying_push M m Q = filter_two (λ v. not (has_moved v (M ++ m ∷ []))) (λ v. not (has_moved v M)) (λ v. not (eqb v m.vehicle)) (λ v. moved_two v M m) Q

pub absent_filter : (q : ℕ → Bool) (w : ℕ) (xs : List ℕ) → absent w xs ≡ true → absent w (filter q xs) ≡ true
absent_filter q w [] h = refl
absent_filter q w (x ∷ xs) h = af_step (q x) (eqb x w) refl h (absent_filter q w xs)
  where
    rest_of : (c d : Bool) → not (c || d) ≡ true → not d ≡ true
    rest_of true d e = cc
    rest_of false d e = e

    af_step : (b c : Bool) → c ≡ eqb x w → not (c || list_any (λ y. eqb y w) xs) ≡ true → (absent w xs ≡ true → absent w (filter q xs) ≡ true) → absent w (cond b (x ∷ filter q xs) (filter q xs)) ≡ true
    af_step false c r e ih = ih (rest_of c _ e)
    af_step true true r e ih = cc
    af_step true false r e ih = rw (← r) (ih e)

pub distinct_filter : (q : ℕ → Bool) (xs : List ℕ) → distinct xs ≡ true → distinct (filter q xs) ≡ true
distinct_filter q [] h = refl
distinct_filter q (x ∷ xs) h = let parts = and_parts (absent x xs) (distinct xs) h in df_step (q x) (absent_filter q x xs parts.0) (distinct_filter q xs parts.1)
  where
    df_step : (b : Bool) → absent x (filter q xs) ≡ true → distinct (filter q xs) ≡ true → distinct (cond b (x ∷ filter q xs) (filter q xs)) ≡ true
    df_step true a d = rw (a, d) refl
    df_step false a d = d

pub first_leaves : (xs : List ℕ) (v : ℕ) → distinct xs ≡ true → slice_get xs 0 ≡ Some v → without v xs ≡ drop 1 xs
first_leaves [] v d h = cc
first_leaves (x ∷ xs) v d h =
    let same : x ≡ v = same_Some x v h in
    let parts = and_parts (absent x xs) (distinct xs) d in
    rw (eq-eqb x v same) (without-absent v xs (subst (λ w. absent w xs ≡ true) same parts.0))

brought_push : (b : ℕ) (M : List Move) (m : Move) → brought b (M ++ m ∷ []) ≡ brought b M ++ cond (leads_to b m) (m.vehicle ∷ []) []
unfolding brought
brought_push b M m = ap (λ L. vehicles L) (filter-append (leads_to b) M (m ∷ [])) ∙ map-append (λ x. x.vehicle) (filter (leads_to b) M) (cond (leads_to b m) (m ∷ []) []) ∙ ap (λ K. vehicles (filter (leads_to b) M) ++ K) (one_vehicle (leads_to b m) m)

-- who was brought moved
brought_moved : (b : ℕ) (M : List Move) (i v : ℕ) → slice_get (brought b M) i ≡ Some v → has_moved v M ≡ true
unfolding brought has_moved
brought_moved b [] i v h = cc
brought_moved b (x ∷ M) i v h = bm_step (leads_to b x) i h (λ j e. brought_moved b M j v e)
  where
    or_right : (c d : Bool) → d ≡ true → (c || d) ≡ true
    or_right true d e = refl
    or_right false d e = e

    bm_step : (c : Bool) (k : ℕ) → slice_get (vehicles (cond c (x ∷ filter (leads_to b) M) (filter (leads_to b) M))) k ≡ Some v → ((j : ℕ) → slice_get (vehicles (filter (leads_to b) M)) j ≡ Some v → list_any (is_of v) M ≡ true) → (eqb x.vehicle v || list_any (is_of v) M) ≡ true
    bm_step true zero e ih = rw (eq-eqb x.vehicle v (same_Some x.vehicle v e)) refl
    bm_step true (suc k) e ih = or_right (eqb x.vehicle v) (list_any (is_of v) M) (ih k e)
    bm_step false k e ih = or_right (eqb x.vehicle v) (list_any (is_of v) M) (ih k e)

-- who fails a test isn't among those that pass it
absent_failing : (q : ℕ → Bool) (v : ℕ) (xs : List ℕ) → q v ≡ false → absent v (filter q xs) ≡ true
absent_failing q v [] h = refl
absent_failing q v (x ∷ xs) h = failing_step (q x) refl (eqb_tells x v) (absent_failing q v xs h)
  where
    failing_step : (b : Bool) → b ≡ q x → ((eqb x v ≡ true) × (x ≡ v)) ⊎ ((eqb x v ≡ false) × (x ≢ v)) → absent v (filter q xs) ≡ true → absent v (cond b (x ∷ filter q xs) (filter q xs)) ≡ true
    failing_step false r e ih = ih
    failing_step true r (inl (s, same)) ih = let clash : true ≡ false = r ∙ ap q same ∙ h in cc
    failing_step true r (inr (s, other)) ih = rw s ih

pub absent_range : (v k from : ℕ) → v < from → absent v (range_with_len from k) ≡ true
absent_range v zero from h = refl
absent_range v (suc k) from h = rw (ne_eqb from v (λ e. absurd (omega (arith, h, e)))) (absent_range v k (from + 1) (omega (arith, h)))

pub distinct_range : (k from : ℕ) → distinct (range_with_len from k) ≡ true
distinct_range zero from = refl
distinct_range (suc k) from = rw (absent_range from k (from + 1) (omega arith)) (distinct_range k (from + 1))

pub one_rider : (p : Plan) (c : Bool) (m : Move) (U : List Move) → riders p U (cond c (m.vehicle ∷ []) []) ≡ cond c (rider_at p U m.vehicle ∷ []) []
one_rider p true m U = refl
one_rider p false m U = refl

module _ (p : Plan) (T0 M : List Move) (m : Move) (new : has_moved m.vehicle M ≡ false) where
  pushed : (Q : List ℕ) → absent m.vehicle Q ≡ true → staying (M ++ m ∷ []) Q ≡ staying M Q
  pushed Q away = staying_push M m Q ∙ without-absent m.vehicle (staying M Q) (absent_filter (λ v. not (has_moved v M)) m.vehicle Q away)

  shifted : (Q : List ℕ) → distinct Q ≡ true → slice_get (staying M Q) 0 ≡ Some m.vehicle → staying (M ++ m ∷ []) Q ≡ drop 1 (staying M Q)
  shifted Q d h = staying_push M m Q ∙ first_leaves (staying M Q) m.vehicle (distinct_filter (λ v. not (has_moved v M)) Q d) h

  -- the first of an in-line
  line_of : (l : ℕ) → slice_get (staying M (queue_of l T0)) 0 ≡ Some m.vehicle → LeavesLine p T0 M (M ++ m ∷ []) l m.vehicle
  unfolding stands_on waiting_for
  line_of l h =
      let x = kept_at (λ v. not (has_moved v M)) (queue_of l T0) 0 m.vehicle h in
      let y = in-queue l T0 (x.1.0) m.vehicle (x.1.1) in
      let moved = has_moved-if m.vehicle T0 (y.0) (y.1) in
      record {
        first = shifted (queue_of l T0) (queue-distinct l T0) h;
        lines = λ k other. pushed (queue_of k T0) (queues-apart l k m.vehicle T0 other (present (queue_of l T0) (x.1.0) m.vehicle (x.1.1)));
        waiting = λ b. pushed (waiting_for p b T0) (absent_failing (λ v. is_first b (first_link p v) && not (has_moved v T0)) m.vehicle (vehicles_of p) (rw moved (and-false (is_first b (first_link p m.vehicle)))));
        stands = λ k. ap (leads_there k) (y.1) ∙ link_same (y.0).target l k (y.2);
      }
    where
      link_same : (x : Target) (l k : ℕ) → is_link l x ≡ true → is_link k x ≡ nat_eq l k
      link_same (Onto b) l k e = rw (eqb-true b l e) refl
      link_same Arrived l k e = cc

  -- the first of a waiting line
  waiting_of : (b : ℕ) → slice_get (staying M (waiting_for p b T0)) 0 ≡ Some m.vehicle → LeavesWaiting p T0 M (M ++ m ∷ []) b m.vehicle
  unfolding stands_on waiting_for queue_of
  waiting_of b h =
      let test : ℕ → Bool = λ v. is_first b (first_link p v) && not (has_moved v T0) in
      let x = kept_at (λ v. not (has_moved v M)) (waiting_for p b T0) 0 m.vehicle h in
      let y = kept_at test (vehicles_of p) (x.1.0) m.vehicle (x.1.1) in
      let parts = and_parts (is_first b (first_link p m.vehicle)) (not (has_moved m.vehicle T0)) (y.0) in
      let none : has_moved m.vehicle T0 ≡ false = not-true (has_moved m.vehicle T0) parts.1 in
      record {
        first = shifted (waiting_for p b T0) (distinct_filter test (vehicles_of p) (distinct_range (vehicle_count p) 0)) h;
        waiting = λ c other. pushed (waiting_for p c T0) (absent_failing (λ v. is_first c (first_link p v) && not (has_moved v T0)) m.vehicle (vehicles_of p) (rw (other_first (first_link p m.vehicle) b c other parts.0) refl));
        lines = λ k. pushed (queue_of k T0) (absent-filter (leads_to k) m.vehicle (last_moves T0) (absent-last m.vehicle T0 none));
        stands = λ k. ap (leads_there k) (no-last m.vehicle T0 none);
      }
    where
      other_first : (o : Option ℕ) (b c : ℕ) → b ≢ c → is_first b o ≡ true → is_first c o ≡ false
      other_first None b c n e = cc
      other_first (Some k) b c n e = rw (eqb-true k b e) (ne_eqb b c n)

  like : (b i v : ℕ) → slice_get (brought b M) i ≡ Some v → rider_at p (T0 ++ (M ++ m ∷ [])) v ≡ rider_at p (T0 ++ M) v
  like b i v h =
      rider-like p (T0 ++ (M ++ m ∷ [])) (T0 ++ M) v
      (ap (λ L. moves_of v L) (sym (append_assoc T0 M (m ∷ []))) ∙ moves_of-append v (T0 ++ M) (m ∷ []) ∙ ap (λ L. moves_of v (T0 ++ M) ++ L) (other_move v m (λ e. clash (has_moved v M) (brought_moved b M i v h) (subst (λ w. has_moved w M ≡ false) e new))) ∙ append-nil (moves_of v (T0 ++ M)))
    where
      clash : (c : Bool) → c ≡ true → c ≡ false → ⊥
      clash c e f = let g : true ≡ false = sym e ∙ f in cc

  comes_of : (b : ℕ) → riders p (T0 ++ (M ++ m ∷ [])) (brought b (M ++ m ∷ [])) ≡ riders p (T0 ++ M) (brought b M) ++ cond (leads_to b m) (rider_at p (T0 ++ (M ++ m ∷ [])) m.vehicle ∷ []) []
  comes_of b =
      let U = T0 ++ (M ++ m ∷ []) in
      ap (λ Q. riders p U Q) (brought_push b M m) ∙ map-append (rider_at p U) (brought b M) (cond (leads_to b m) (m.vehicle ∷ []) [])
      ∙ ap (λ K. K ++ riders p U (cond (leads_to b m) (m.vehicle ∷ []) [])) (map_like (rider_at p U) (rider_at p (T0 ++ M)) (brought b M) (like b))
      ∙ ap (λ K. riders p (T0 ++ M) (brought b M) ++ K) (one_rider p (leads_to b m) m U)

pub moves_pass : MovesPass
moves_pass p T0 M m new = record { line = line_of p T0 M m new; waiting = waiting_of p T0 M m new; comes = comes_of p T0 M m new }

count_push : (f : Move → Bool) (M : List Move) (m : Move) → count_by f (M ++ m ∷ []) ≡ count_by f M + cond (f m) 1 0
count_push f M m = sum_by-append (λ x. cond (f x) 1 0) M (m ∷ []) ∙ ap (λ k. count_by f M + k) (none_plus (cond (f m) 1 0))
  where
    none_plus : (k : ℕ) → 0 + k ≡ k
    none_plus k = omega arith

pub moves_count : MovesCount
unfolding left entered turned
moves_count p n t T0 M m = record {
  left = λ l. count_push (λ x. stands_on l T0 x.vehicle) M m;
  entered = λ b. count_push (leads_to b) M m;
  turned = λ l b. count_push (λ x. leads_to b x && stands_on l T0 x.vehicle) M m;
}
