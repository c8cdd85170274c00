-- Links are left in the order of entry.
use Rattle.std.specs.List.{list_any}
use Rattle.std.specs.Prelude.{slice_get, ◌≢◌}
use Rattle.std.proofs.Common.{◌≡◌, ℕ, Bool, true, false, cond, ◌||◌, not, List, [], ◌∷◌, ◌++◌, length, refl, ap, sym, ◌∙◌, subst, Some, ◌⊎◌, inl, inr, append_assoc, append-nil, Option, None}
use Rattle.std.proofs.lemmas.Bool.{eqb-false, eq-eqb, ne_eqb, eqb-true, and_parts, cases_Bool, not-true}
use Rattle.std.proofs.lemmas.List.Elements.{filter-append}
use Rattle.std.proofs.Math.Dec.{eqb}
use Rattle.dta_model.proofs.Blocked.{next_target-other}
use Rattle.dta_model.proofs.NoMoves.{no-moves}
pub use Rattle.dta_model.proofs.Following.{Follows}
use Rattle.dta_model.proofs.Following.{Follows-at, whole-follows}
use Rattle.dta_model.specs.declared.plan.Plan.{Plan}
use Rattle.dta_model.specs.Laws.{HeadsMove, LeftInOrder, MovesInOrder}
use Rattle.dta_model.specs.Loading.{trace_after}
use Rattle.dta_model.specs.NodeMoves.{is_first, waits_for}
use Rattle.dta_model.specs.Plans.{first_link, route_of}
use Rattle.dta_model.specs.Trace.{Move, Onto, has_moved, is_of, last_move, leads_to, moves_made, next_target, queue_of, target_at}
use Rattle.dta_model.proofs.Queues.{absent, without, queue-push}
use Rattle.dta_model.proofs.Pushes.{last_move-still, last_move-own, has_moved-append, moves_made_is}
use Rattle.dta_model.proofs.Standing.{in-queue}
use Rattle.dta_model.proofs.NextMoves.{Kind, head, waiting}
use Rattle.dta_model.proofs.Same.{Same}
use Rattle.dta_model.proofs.Congruence.{has_moved-same, next_target-same}
use Rattle.dta_model.proofs.Fuel.{has_moved-if, absent_without}
use Rattle.dta_model.proofs.Conserved.{one_link}
use Rattle.std.proofs.lemmas.Option.{same_Some}

-- a move in turn, to the next target
abbrev pub Fits : Plan → List Move → Move → Type 0
Fits p S m = MovesInOrder S m × (m.target ≡ next_target p S m.vehicle)

head_stays : (Q X : List ℕ) (v w : ℕ) → w ≢ v → slice_get Q 0 ≡ Some v → slice_get (without w Q ++ X) 0 ≡ Some v
head_stays [] X v w n h = cc
head_stays (q ∷ Q) X v w n h = let same : q ≡ v = same_Some q v h in rw (ne_eqb q w (λ e. n (sym e ∙ same))) h

none_more : (W : List Move) (d : Move) (v : ℕ) → d.vehicle ≢ v → has_moved v W ≡ false → has_moved v (W ++ d ∷ []) ≡ false
unfolding has_moved
none_more W d v n h = has_moved-append v W (d ∷ []) ∙ rw (h, ne_eqb d.vehicle v n) refl

-- a move of another vehicle before it
turn-other : (W : List Move) (d m : Move) → d.vehicle ≢ m.vehicle → MovesInOrder W m → MovesInOrder (W ++ d ∷ []) m
turn-other W d m n (inl h) = inl (none_more W d m.vehicle n h)
turn-other W d m n (inr (l, e)) = inr (l, ap (λ Q. slice_get Q 0) (queue-push l W d) ∙ head_stays (queue_of l W) (cond (leads_to l d) (d.vehicle ∷ []) []) m.vehicle d.vehicle n e)

fits-other : (p : Plan) (W : List Move) (d m : Move) → d.vehicle ≢ m.vehicle → Fits p W m → Fits p (W ++ d ∷ []) m
fits-other p W d m n h = (turn-other W d m n h.0, h.1 ∙ sym (next_target-other p W d m.vehicle n))

fits-same : (p : Plan) (T U : List Move) (m : Move) → Same T U → Fits p T m → Fits p U m
fits-same p T U m s (inl h, e) = (inl (sym (has_moved-same T U s m.vehicle) ∙ h), e ∙ next_target-same p T U s m.vehicle)
fits-same p T U m s (inr (l, h), e) = (inr (l, ap (λ Q. slice_get Q 0) (sym (s.queues l)) ∙ h), e ∙ next_target-same p T U s m.vehicle)

module _ (p : Plan) (t : ℕ) (T : List Move) where
  starts : (M : List Move) (b : ℕ) (m : Move) → is_first b (first_link p m.vehicle) ≡ true → has_moved m.vehicle (T ++ M) ≡ false → Onto b ≡ next_target p (T ++ M) m.vehicle
  unfolding next_target first_link
  starts M b m f h =
      let none : moves_made m.vehicle (T ++ M) ≡ 0 = moves_made_is m.vehicle (T ++ M) ∙ ap (λ L. length L) (no-moves m.vehicle (T ++ M) h) in
      sym (ap (λ k. target_at (slice_get (route_of p m.vehicle) k)) none ∙ onto_first (slice_get (route_of p m.vehicle) 0) f)
    where
      onto_first : (o : Option ℕ) → is_first b o ≡ true → target_at o ≡ Onto b
      onto_first None e = cc
      onto_first (Some l) e = ap (λ k. Onto k) (eqb-true l b e)

  kind_fits : (n : ℕ) (M : List Move) (m : Move) → Kind p n t T M m → Fits p (T ++ M) m
  unfolding waits_for
  kind_fits n M m (head l into h) = (inr (l, h.first), h.goes)
  kind_fits n M m (waiting b out h) =
      let parts = and_parts _ _ h.waits in
      let more = and_parts _ _ parts.0 in
      let still = not-true _ parts.1 in
      (inl still, h.goes ∙ starts M b m more.0 still)

pub trace-follows : (p : Plan) (t : ℕ) → Follows (Fits p) [] (trace_after p t)
trace-follows p t = whole-follows p (Fits p) (fits-other p) (fits-same p) (kind_fits p) t

pub heads_move : HeadsMove
heads_move p t S R m e = (Follows-at (Fits p) S R m [] (subst (λ L. Follows (Fits p) [] L) e (trace-follows p t))).0

-- a place in a queue, while its vehicle stays: those before it only grow fewer
record Place (l w : ℕ) (T : List Move) (X : List ℕ) : Type 0 where
  front : List ℕ
  back : List ℕ
  is : queue_of l T ≡ front ++ w ∷ back
  fewer : (u : ℕ) → absent u X ≡ true → absent u front ≡ true

without_at : (v w : ℕ) (X Y : List ℕ) → w ≢ v → without v (X ++ w ∷ Y) ≡ without v X ++ w ∷ without v Y
without_at v w X Y n = filter-append (λ x. not (eqb x v)) X (w ∷ Y) ∙ rw (ne_eqb w v n) refl

keeps_place : (l w : ℕ) (N T : List Move) (X Y : List ℕ) → queue_of l T ≡ X ++ w ∷ Y → has_moved w N ≡ false → Place l w (T ++ N) X
unfolding has_moved
keeps_place l w [] T X Y q h = record { front = X; back = Y; is = ap (λ L. queue_of l L) (append-nil T) ∙ q; fewer = λ u a. a }
keeps_place l w (m ∷ N) T X Y q h =
    let parts = or_parts (eqb m.vehicle w) (list_any (is_of w) N) h in
    let other : w ≢ m.vehicle = λ e. eqb-false m.vehicle w parts.0 (sym e) in
    let next : queue_of l (T ++ m ∷ []) ≡ without m.vehicle X ++ w ∷ (without m.vehicle Y ++ cond (leads_to l m) (m.vehicle ∷ []) []) =
    queue-push l T m ∙ ap (λ Q. without m.vehicle Q ++ cond (leads_to l m) (m.vehicle ∷ []) []) q ∙ ap (λ Q. Q ++ cond (leads_to l m) (m.vehicle ∷ []) []) (without_at m.vehicle w X Y other) ∙ append_assoc (without m.vehicle X) (w ∷ without m.vehicle Y) (cond (leads_to l m) (m.vehicle ∷ []) []) in
    let rest = keeps_place l w N (T ++ m ∷ []) (without m.vehicle X) (without m.vehicle Y ++ cond (leads_to l m) (m.vehicle ∷ []) []) next parts.1 in
    record { front = rest.front; back = rest.back; is = ap (λ L. queue_of l L) (sym (append_assoc T (m ∷ []) N)) ∙ rest.is; fewer = λ u a. rest.fewer u (absent_without m.vehicle u X a) }
  where
    or_parts : (b c : Bool) → (b || c) ≡ false → (b ≡ false) × (c ≡ false)
    or_parts true c h = cc
    or_parts false c h = (refl, h)

gone : (v : ℕ) (xs : List ℕ) → absent v (without v xs) ≡ true
gone v [] = refl
gone v (x ∷ xs) = gone_step (eqb x v) refl (gone v xs)
  where
    gone_step : (b : Bool) → b ≡ eqb x v → absent v (without v xs) ≡ true → absent v (cond (not b) (x ∷ without v xs) (without v xs)) ≡ true
    gone_step true r h = h
    gone_step false r h = rw (← r) h

not_front : (X Y : List ℕ) (w v : ℕ) → absent v X ≡ true → w ≢ v → slice_get (X ++ w ∷ Y) 0 ≡ Some v → ⊥
not_front [] Y w v a n h = n (same_Some w v h)
not_front (x ∷ X) Y w v a n h =
    let same : x ≡ v = same_Some x v h in
    let b : not (eqb x v || list_any (λ y. eqb y v) X) ≡ true = a in
    let c : false ≡ true = sym (rw (eq-eqb x v same) refl) ∙ b in cc

split_moved : (v : ℕ) (B C : List Move) (b : Move) → has_moved v (B ++ b ∷ C) ≡ false → (has_moved v B ≡ false) × (b.vehicle ≢ v) × (has_moved v C ≡ false)
unfolding has_moved
split_moved v B C b h = parts (list_any (is_of v) B) (eqb b.vehicle v) (list_any (is_of v) C) refl (sym (has_moved-append v B (b ∷ C)) ∙ h)
  where
    parts : (x y z : Bool) → y ≡ eqb b.vehicle v → (x || (y || z)) ≡ false → (x ≡ false) × (b.vehicle ≢ v) × (z ≡ false)
    parts true y z e f = cc
    parts false true z e f = cc
    parts false false z e f = (refl, eqb-false b.vehicle v (sym e), f)

module _ (l : ℕ) (A B C : List Move) (a b c : Move) (at_a : leads_to l a ≡ true) (at_b : leads_to l b ≡ true) (of_b : c.vehicle ≡ b.vehicle) (still : has_moved b.vehicle C ≡ false) where
  before_b : List Move
  before_b = (A ++ a ∷ []) ++ B

  whole : List Move
  whole = (before_b ++ b ∷ []) ++ C

  last_b : last_move b.vehicle whole ≡ Some b
  unfolding whole
  last_b = last_move-still b.vehicle C (before_b ++ b ∷ []) still ∙ last_move-own before_b b

  same_link : (k : ℕ) → slice_get (queue_of k whole) 0 ≡ Some b.vehicle → k ≡ l
  same_link k h =
      let x = in-queue k whole 0 b.vehicle h in
      let same : x.0 ≡ b = some_move (x.0) b (sym (x.1) ∙ last_b) in
      one_link k l b.target (subst (λ z. leads_to k z ≡ true) same (x.2)) at_b
    where
      some_move : (x y : Move) → Some x ≡ Some y → x ≡ y
      some_move x y e = cc

  not_head : has_moved a.vehicle (B ++ b ∷ C) ≡ false → slice_get (queue_of l whole) 0 ≡ Some b.vehicle → ⊥
  unfolding whole before_b
  not_head none h =
      let parts = split_moved a.vehicle B C b none in
      let start : queue_of l (A ++ a ∷ []) ≡ without a.vehicle (queue_of l A) ++ a.vehicle ∷ [] = queue-push l A a ∙ rw at_a refl in
      let one = keeps_place l a.vehicle B (A ++ a ∷ []) (without a.vehicle (queue_of l A)) [] start (parts.0) in
      let other : a.vehicle ≢ b.vehicle = λ e. parts.1 (sym e) in
      let two : queue_of l (((A ++ a ∷ []) ++ B) ++ b ∷ []) ≡ without b.vehicle one.front ++ a.vehicle ∷ (without b.vehicle one.back ++ b.vehicle ∷ []) =
      queue-push l ((A ++ a ∷ []) ++ B) b ∙ rw at_b (ap (λ Q. without b.vehicle Q ++ b.vehicle ∷ []) one.is ∙ ap (λ Q. Q ++ b.vehicle ∷ []) (without_at b.vehicle a.vehicle one.front one.back other) ∙ append_assoc (without b.vehicle one.front) (a.vehicle ∷ without b.vehicle one.back) (b.vehicle ∷ [])) in
      let three = keeps_place l a.vehicle C (((A ++ a ∷ []) ++ B) ++ b ∷ []) (without b.vehicle one.front) (without b.vehicle one.back ++ b.vehicle ∷ []) two (parts.2) in
      not_front three.front three.back a.vehicle b.vehicle (three.fewer b.vehicle (gone b.vehicle one.front)) other (ap (λ Q. slice_get Q 0) (sym three.is) ∙ h)

  in_order : MovesInOrder whole c → has_moved a.vehicle (B ++ b ∷ C) ≡ true
  in_order turn = order_step (cases_Bool (has_moved a.vehicle (B ++ b ∷ C))) (subst (λ v. (has_moved v whole ≡ false) ⊎ ((k : ℕ) × (slice_get (queue_of k whole) 0 ≡ Some v))) of_b turn)
    where
      order_step : (has_moved a.vehicle (B ++ b ∷ C) ≡ true) ⊎ (has_moved a.vehicle (B ++ b ∷ C) ≡ false) → (has_moved b.vehicle whole ≡ false) ⊎ ((k : ℕ) × (slice_get (queue_of k whole) 0 ≡ Some b.vehicle)) → has_moved a.vehicle (B ++ b ∷ C) ≡ true
      order_step (inl e) x = e
      order_step (inr e) (inl x) = let f : true ≡ false = sym (has_moved-if b.vehicle whole b last_b) ∙ x in cc
      order_step (inr e) (inr (k, h)) = absurd (not_head e (subst (λ j. slice_get (queue_of j whole) 0 ≡ Some b.vehicle) (same_link k h) h))

regrouped : (A B C R : List Move) (a b c : Move) → A ++ a ∷ (B ++ b ∷ (C ++ c ∷ R)) ≡ ((((A ++ a ∷ []) ++ B) ++ b ∷ []) ++ C) ++ c ∷ R
regrouped A B C R a b c =
    sym (append_assoc A (a ∷ []) (B ++ b ∷ (C ++ c ∷ R)))
    ∙ sym (append_assoc (A ++ a ∷ []) B (b ∷ (C ++ c ∷ R)))
    ∙ sym (append_assoc ((A ++ a ∷ []) ++ B) (b ∷ []) (C ++ c ∷ R))
    ∙ sym (append_assoc (((A ++ a ∷ []) ++ B) ++ b ∷ []) C (c ∷ R))

pub left_in_order : LeftInOrder
unfolding whole before_b
left_in_order p t l A B C R a b c e at_a at_b of_b still =
    in_order l A B C a b c at_a at_b of_b still (heads_move p t ((((A ++ a ∷ []) ++ B) ++ b ∷ []) ++ C) R c (e ∙ regrouped A B C R a b c))
