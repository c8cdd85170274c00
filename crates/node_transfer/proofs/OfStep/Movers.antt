-- What one more move of a node changes of riders, lines, batches and waiting lines.
use Rattle.std.specs.List.{list_any}
use Rattle.std.specs.Prelude.{filter, find, slice_get, ◌≢◌, nat_le}
use Rattle.std.proofs.Common.{◌≡◌, ℕ, zero, suc, Bool, true, false, cond, ◌&&◌, ◌||◌, not, List, [], ◌∷◌, ◌++◌, refl, ap, sym, ◌∙◌, subst, arith, append_assoc, append-nil, Some, drop, ◌⊎◌, inl, inr}
use Rattle.std.proofs.lemmas.Bool.{eq-eqb, ne_eqb}
use Rattle.std.proofs.lemmas.Bool.Decides.{eqb_tells, nat_tests}
use Rattle.std.proofs.lemmas.List.{map-append}
use Rattle.std.proofs.lemmas.List.Elements.{filter-append}
use Rattle.std.proofs.Math.Dec.{eqb}
use Rattle.dta_model.specs.Loading.{is_onto}
use Rattle.dta_model.specs.NodeMoves.{waits_for, admission, admit, is_first}
use Rattle.dta_model.specs.Plans.{departure_of, first_link, vehicle_count, vehicles_of}
use Rattle.dta_model.specs.Riders.{rider_at, riders, moved}
use Rattle.cell_stages.specs.Stages.{staying, arriving, waiting_for, batch_by, arrive_by}
use Rattle.dta_model.specs.Trace.{Move, has_moved, is_of, leads_to, moves_of, next_target}
use Rattle.cell_stages.specs.Transfers.{OnlyEnters}
use Rattle.dta_model.specs.declared.plan.Plan.{Plan}
use Rattle.dta_model.proofs.Queues.{vehicles, distinct}
use Rattle.dta_model.proofs.Pushes.{has_moved-append, moves_of-append}
use Rattle.node_transfer.proofs.OfStep.ByKey.{both_true}
use Rattle.cell_stages.proofs.Gathering.{kept_at, map_like, rider-like}
use Rattle.dta_model.proofs.NoMoves.{no-moves}
use Rattle.dta_model.proofs.Riders.{other_move}
use Rattle.cell_stages.proofs.Riders.{filter_two}
use Rattle.cell_stages.proofs.Lines.{riders_move}
use Rattle.cell_stages.proofs.Passing.{moves_pass}
use Rattle.node_transfer.proofs.OfStep.Mid.{T, due_now, due_later}
pub use Rattle.cell_stages.proofs.Gathering.{filter_like}
pub use Rattle.cell_stages.proofs.Passing.{distinct_filter, distinct_range, first_leaves, staying_push}
use Rattle.cell_stages.proofs.Passing.{moved_two, one_rider}

filter_pair : (q s s' : ℕ → Bool) → ((u : ℕ) → (s' u && q u) ≡ (s u && q u)) → (xs : List ℕ) → filter q (filter s' xs) ≡ filter q (filter s xs)
filter_pair q s s' same xs =
    sym (filter_two (λ u. s' u && q u) s' q (λ u. refl) xs) ∙ filter_like (λ u. s' u && q u) (λ u. s u && q u) xs (λ i u e. same u) ∙ filter_two (λ u. s u && q u) s q (λ u. refl) xs

and_swap : (a b : Bool) → (a && b) ≡ (b && a)
and_swap true true = refl
and_swap true false = refl
and_swap false true = refl
and_swap false false = refl

filter_swap : (q r : ℕ → Bool) (xs : List ℕ) → filter q (filter r xs) ≡ filter r (filter q xs)
filter_swap q r xs = sym (filter_two (λ u. r u && q u) r q (λ u. refl) xs) ∙ filter_two (λ u. r u && q u) q r (λ u. and_swap (r u) (q u)) xs

or_none : (a b : Bool) → b ≡ false → (a || b) ≡ a
or_none true b h = refl
or_none false b h = h

-- those who don't move in the further moves stay as they did
pub staying-same : (M R : List Move) (Q : List ℕ) → ((i u : ℕ) → slice_get Q i ≡ Some u → has_moved u R ≡ false) → staying (M ++ R) Q ≡ staying M Q
staying-same M R Q still =
    filter_like (λ u. not (has_moved u (M ++ R))) (λ u. not (has_moved u M)) Q (λ i u e. ap not (has_moved-append u M R ∙ or_none (has_moved u M) (has_moved u R) (still i u e)))

pub unmoved_one : (m : Move) (u : ℕ) → u ≢ m.vehicle → has_moved u (m ∷ []) ≡ false
unfolding has_moved
unmoved_one m u other = rw (ne_eqb m.vehicle u (λ e. other (sym e))) refl

arriving_push : (M : List Move) (m : Move) → arriving (M ++ m ∷ []) ≡ arriving M ++ cond (not (is_onto m.target)) (m.vehicle ∷ []) []
unfolding arriving
arriving_push M m =
    ap (λ L. vehicles L) (filter-append (λ x. not (is_onto x.target)) M (m ∷ [])) ∙ map-append (λ x. x.vehicle) (filter (λ x. not (is_onto x.target)) M) (cond (not (is_onto m.target)) (m ∷ []) [])
    ∙ ap (λ K. vehicles (filter (λ x. not (is_onto x.target)) M) ++ K) (one_mover (not (is_onto m.target)))
  where
    one_mover : (b : Bool) → vehicles (cond b (m ∷ []) []) ≡ cond b (m.vehicle ∷ []) []
    one_mover true = refl
    one_mover false = refl

-- who arrives in a list of moves moves in it
arriving_moved : (M : List Move) (i v : ℕ) → slice_get (arriving M) i ≡ Some v → has_moved v M ≡ true
unfolding arriving has_moved
arriving_moved [] i v h = cc
arriving_moved (x ∷ M) i v h = bm_step (not (is_onto x.target)) i h (λ j e. arriving_moved M j v e)
  where
    or_right : (c d : Bool) → d ≡ true → (c || d) ≡ true
    or_right true d e = refl
    or_right false d e = e

    some_nat : (a b : ℕ) → Some a ≡ Some b → a ≡ b
    some_nat a b h = cc

    bm_step : (c : Bool) (k : ℕ) → slice_get (vehicles (cond c (x ∷ filter (λ y. not (is_onto y.target)) M) (filter (λ y. not (is_onto y.target)) M))) k ≡ Some v
        → ((j : ℕ) → slice_get (vehicles (filter (λ y. not (is_onto y.target)) M)) j ≡ Some v → list_any (is_of v) M ≡ true) → (eqb x.vehicle v || list_any (is_of v) M) ≡ true
    bm_step true zero e ih = rw (eq-eqb x.vehicle v (some_nat x.vehicle v e)) refl
    bm_step true (suc k) e ih = or_right (eqb x.vehicle v) (list_any (is_of v) M) (ih k e)
    bm_step false k e ih = or_right (eqb x.vehicle v) (list_any (is_of v) M) (ih k e)

pub clash : (c : Bool) → c ≡ true → c ≡ false → ⊥
clash c e f = let g : true ≡ false = sym e ∙ f in cc

-- a move of a vehicle that hasn't moved in the step, to its next target
module _ (p : Plan) (n t : ℕ) (M : List Move) (m : Move) (new : has_moved m.vehicle M ≡ false) (only : OnlyEnters (T p n t) m.vehicle) (goes : m.target ≡ next_target p (T p n t) m.vehicle) (now : m.step ≡ t) where
  rider-after : rider_at p (T p n t ++ (M ++ m ∷ [])) m.vehicle ≡ moved (rider_at p (T p n t) m.vehicle) t
  rider-after =
      rider-like p (T p n t ++ (M ++ m ∷ [])) (T p n t ++ m ∷ []) m.vehicle
      (moves_of-append m.vehicle (T p n t) (M ++ m ∷ []) ∙ ap (λ L. moves_of m.vehicle (T p n t) ++ L) (moves_of-append m.vehicle M (m ∷ []) ∙ ap (λ L. L ++ moves_of m.vehicle (m ∷ [])) (no-moves m.vehicle M new)) ∙ sym (moves_of-append m.vehicle (T p n t) (m ∷ [])))
      ∙ riders_move p (T p n t) m only goes ∙ ap (λ k. moved (rider_at p (T p n t) m.vehicle) k) now

  pub batch-push : (b : ℕ) → batch_by p b (T p n t) (M ++ m ∷ []) ≡ batch_by p b (T p n t) M ++ cond (leads_to b m) (moved (rider_at p (T p n t) m.vehicle) t ∷ []) []
  batch-push b = (moves_pass p (T p n t) M m new).comes b ∙ ap (λ r. batch_by p b (T p n t) M ++ cond (leads_to b m) (r ∷ []) []) rider-after

  arrive-like : (i v : ℕ) → slice_get (arriving M) i ≡ Some v → rider_at p (T p n t ++ (M ++ m ∷ [])) v ≡ rider_at p (T p n t ++ M) v
  arrive-like i v h =
      rider-like p (T p n t ++ (M ++ m ∷ [])) (T p n t ++ M) v
      (ap (λ L. moves_of v L) (sym (append_assoc (T p n t) M (m ∷ []))) ∙ moves_of-append v (T p n t ++ M) (m ∷ []) ∙ ap (λ L. moves_of v (T p n t ++ M) ++ L) (other_move v m (λ e. clash (has_moved v M) (arriving_moved M i v h) (subst (λ w. has_moved w M ≡ false) e new))) ∙ append-nil (moves_of v (T p n t ++ M)))

  pub arrive-push : arrive_by p (T p n t) (M ++ m ∷ []) ≡ arrive_by p (T p n t) M ++ cond (not (is_onto m.target)) (moved (rider_at p (T p n t) m.vehicle) t ∷ []) []
  arrive-push =
      let U = T p n t ++ (M ++ m ∷ []) in
      ap (λ Q. riders p U Q) (arriving_push M m) ∙ map-append (rider_at p U) (arriving M) (cond (not (is_onto m.target)) (m.vehicle ∷ []) [])
      ∙ ap (λ K. K ++ riders p U (cond (not (is_onto m.target)) (m.vehicle ∷ []) [])) (map_like (rider_at p U) (rider_at p (T p n t ++ M)) (arriving M) arrive-like)
      ∙ ap (λ K. arrive_by p (T p n t) M ++ K) (one_rider p (not (is_onto m.target)) m U ∙ ap (λ r. cond (not (is_onto m.target)) (r ∷ []) []) rider-after)

-- who waits
module _ (p : Plan) (n t : ℕ) where
  pub waits-unmoved : (b i v : ℕ) → slice_get (waiting_for p b (T p n t)) i ≡ Some v → (is_first b (first_link p v) ≡ true) × (has_moved v (T p n t) ≡ false)
  unfolding waiting_for
  waits-unmoved b i v e =
      let k = kept_at (λ w. is_first b (first_link p w) && not (has_moved w (T p n t))) (vehicles_of p) i v e in
      let parts = both_true (is_first b (first_link p v)) (not (has_moved v (T p n t))) k.0 in
      (parts.0, not_true (has_moved v (T p n t)) parts.1)
    where
      not_true : (c : Bool) → not c ≡ true → c ≡ false
      not_true true h = cc
      not_true false h = refl

  pub waiting-distinct : (b : ℕ) → distinct (waiting_for p b (T p n t)) ≡ true
  unfolding waiting_for
  waiting-distinct b = distinct_filter (λ w. is_first b (first_link p w) && not (has_moved w (T p n t))) (vehicles_of p) (distinct_range (vehicle_count p) 0)

  -- those who wait and are due are those that the definition looks among
  waits-due : (M : List Move) (b : ℕ) → filter (waits_for p n t (T p n t) M b) (vehicles_of p) ≡ due_now p n t M b
  unfolding waiting_for waits_for
  waits-due M b =
      filter_two (λ v. is_first b (first_link p v) && nat_le (departure_of p v) t && not (has_moved v (T p n t ++ M))) (λ v. (is_first b (first_link p v) && not (has_moved v (T p n t))) && not (has_moved v M)) (λ v. nat_le (departure_of p v) t)
      (λ v. regroup (is_first b (first_link p v)) (nat_le (departure_of p v) t) (has_moved v (T p n t)) (has_moved v M) (has_moved v (T p n t ++ M)) (has_moved-append v (T p n t) M)) (vehicles_of p)
      ∙ ap (λ L. filter (λ v. nat_le (departure_of p v) t) L)
      (filter_two (λ v. (is_first b (first_link p v) && not (has_moved v (T p n t))) && not (has_moved v M)) (λ v. is_first b (first_link p v) && not (has_moved v (T p n t))) (λ v. not (has_moved v M)) (λ v. refl) (vehicles_of p))
    where
      regroup : (f d x y z : Bool) → z ≡ (x || y) → (f && d && not z) ≡ (((f && not x) && not y) && d)
      regroup false d x y z e = refl
      regroup true d true y z e = rw e (and_last d)
        where
          and_last : (d : Bool) → (d && false) ≡ false
          and_last true = refl
          and_last false = refl
      regroup true d false true z e = rw e (and_last d)
        where
          and_last : (d : Bool) → (d && false) ≡ false
          and_last true = refl
          and_last false = refl
      regroup true d false false z e = rw e (and_true d)
        where
          and_true : (d : Bool) → (d && true) ≡ d
          and_true true = refl
          and_true false = refl

  find_first : (f : ℕ → Bool) (xs : List ℕ) → find f xs ≡ slice_get (filter f xs) 0
  find_first f [] = refl
  find_first f (x ∷ xs) = first_step (f x) (find_first f xs)
    where
      first_step : (c : Bool) → find f xs ≡ slice_get (filter f xs) 0 → cond c (Some x) (find f xs) ≡ slice_get (cond c (x ∷ filter f xs) (filter f xs)) 0
      first_step true ih = refl
      first_step false ih = ih

  pub admission-is : (M : List Move) (b : ℕ) → admission p n t (T p n t) M b ≡ admit p n t (T p n t) M b (slice_get (due_now p n t M b) 0)
  unfolding admission
  admission-is M b = ap (λ o. admit p n t (T p n t) M b o) (find_first (waits_for p n t (T p n t) M b) (vehicles_of p) ∙ ap (λ L. slice_get L 0) (waits-due M b))

  -- the first of those who wait and are due moves
  module _ (M : List Move) (m : Move) (b : ℕ) (first : slice_get (due_now p n t M b) 0 ≡ Some m.vehicle) where
    pub due-departs : nat_le (departure_of p m.vehicle) t ≡ true
    due-departs = (kept_at (λ v. nat_le (departure_of p v) t) (staying M (waiting_for p b (T p n t))) 0 m.vehicle first).0

    pub due-leaves : due_now p n t (M ++ m ∷ []) b ≡ drop 1 (due_now p n t M b)
    due-leaves =
        ap (λ L. filter (λ v. nat_le (departure_of p v) t) L) (staying_push M m (waiting_for p b (T p n t)))
        ∙ filter_swap (λ v. nat_le (departure_of p v) t) (λ v. not (eqb v m.vehicle)) (staying M (waiting_for p b (T p n t)))
        ∙ first_leaves (due_now p n t M b) m.vehicle (distinct_filter (λ v. nat_le (departure_of p v) t) (staying M (waiting_for p b (T p n t))) (distinct_filter (λ v. not (has_moved v M)) (waiting_for p b (T p n t)) (waiting-distinct b))) first

    pub later-stay : due_later p n t (M ++ m ∷ []) b ≡ due_later p n t M b
    later-stay = filter_pair (λ v. nat_le (suc t) (departure_of p v)) (λ v. not (has_moved v M)) (λ v. not (has_moved v (M ++ m ∷ []))) (λ u. late u (eqb_tells u m.vehicle)) (waiting_for p b (T p n t))
      where
        not_late : (u : ℕ) → u ≡ m.vehicle → nat_le (suc t) (departure_of p u) ≡ false
        not_late u e = subst (λ w. nat_le (suc t) (departure_of p w) ≡ false) (sym e) (let d = due-departs in grind (arith, nat_tests))

        and_late : (x y : Bool) → (x && false) ≡ (y && false)
        and_late true true = refl
        and_late true false = refl
        and_late false true = refl
        and_late false false = refl

        and_same : (x : Bool) → (x && true) ≡ x
        and_same true = refl
        and_same false = refl

        late : (u : ℕ) → ((eqb u m.vehicle ≡ true) × (u ≡ m.vehicle)) ⊎ ((eqb u m.vehicle ≡ false) × (u ≢ m.vehicle)) → (not (has_moved u (M ++ m ∷ [])) && nat_le (suc t) (departure_of p u)) ≡ (not (has_moved u M) && nat_le (suc t) (departure_of p u))
        late u (inl (s, same)) = rw (not_late u same) (and_late (not (has_moved u (M ++ m ∷ []))) (not (has_moved u M)))
        late u (inr (s, other)) = ap (λ c. c && nat_le (suc t) (departure_of p u)) (moved_two u M m ∙ rw s (and_same (not (has_moved u M))))
