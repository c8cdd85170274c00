-- A queue after a step: those who stayed, and then those whom the link's first node brought.
use Rattle.std.proofs.lemmas.Bool.{and_parts, false_from_ne_true, not-true}
use Rattle.std.specs.List.{range_with_len}
use Rattle.std.specs.List.{list_any, flat_map}
use Rattle.std.specs.Prelude.{drop, filter, find, slice_get, All, ◌≢◌}
use Rattle.std.proofs.Common.{◌≡◌, ℕ, zero, suc, ◌+◌, ◌<◌, ◌≤◌, Bool, true, false, cond, ◌||◌, not, List, [], ◌∷◌, ◌++◌, length, map, refl, ap, sym, ◌∙◌, subst, arith, Some, ◌⊎◌, inl, inr, append-nil}
use Rattle.std.proofs.lemmas.Bool.Decides.{eqb_tells}
use Rattle.std.proofs.lemmas.List.{map-append}
use Rattle.std.proofs.lemmas.List.Elements.{All-nil, All-append, All-weaker, filter-append}
use Rattle.std.proofs.Math.Dec.{eqb}
use Rattle.dta_model.specs.declared.plan.Plan.{Plan}
use Rattle.dta_model.specs.Loading.{after_step, arrival_of, entries_of, is_entry, step_in, step_moves, trace_after}
use Rattle.dta_model.specs.NodeMoves.{node_moves}
use Rattle.dta_model.specs.Plans.{all_nodes, departure_of, first_link, link_at, route_of}
use Rattle.dta_model.specs.Riders.{RiderState, rider_at, riders}
use Rattle.dta_model.proofs.Steady.{IsSteady, steady_of}
use Rattle.cell_stages.specs.Stages.{batch_mail, brought, line_after, line_before, staying}
use Rattle.dta_model.specs.Trace.{Move, has_moved, is_of, last_moves, leads_to, moves_of, queue_of}
use Rattle.cell_stages.specs.Transfers.{LinesGather}
use Rattle.dta_model.proofs.NoMoves.{no-moves, nobody-on}
use Rattle.dta_model.proofs.Queues.{vehicles, absent, distinct}
use Rattle.dta_model.proofs.Pushes.{has_moved-append, has_moved_is, moves_of-append}
use Rattle.dta_model.proofs.Standing.{in-queue}
use Rattle.dta_model.proofs.Places.{AtNode, at-node, node_of, node_by, to_link, of_mover}
use Rattle.dta_model.proofs.Flat.{apart_from}
use Rattle.dta_model.proofs.Fuel.{has_moved-if, one-step}
use Rattle.std.proofs.lemmas.Option.{same_Some}

lasts_step : (x : Move) (L L' N : List Move) (h e : Bool) → L' ≡ filter (λ m. not (has_moved m.vehicle N)) L ++ last_moves N → e ≡ has_moved x.vehicle N → cond (h || e) L' (x ∷ L') ≡ filter (λ m. not (has_moved m.vehicle N)) (cond h L (x ∷ L)) ++ last_moves N
lasts_step x L L' N true e q r = q
lasts_step x L L' N false true q r = rw (← r) q
lasts_step x L L' N false false q r = rw (← r) (ap (λ K. x ∷ K) q)

last_moves-append : (T N : List Move) → last_moves (T ++ N) ≡ filter (λ m. not (has_moved m.vehicle N)) (last_moves T) ++ last_moves N
unfolding last_moves
last_moves-append [] N = refl
last_moves-append (x ∷ T) N = rw (has_moved-append x.vehicle T N) (lasts_step x (last_moves T) (last_moves (T ++ N)) N (has_moved x.vehicle T) (has_moved x.vehicle N) (last_moves-append T N) refl)

-- a filter by vehicle passes the other way round
by_vehicle : (p : Move → Bool) (q : ℕ → Bool) (L : List Move) → vehicles (filter p (filter (λ m. q m.vehicle) L)) ≡ filter q (vehicles (filter p L))
by_vehicle p q [] = refl
by_vehicle p q (x ∷ L) = by_step (p x) (q x.vehicle) refl refl (by_vehicle p q L)
  where
    by_step : (b c : Bool) → b ≡ p x → c ≡ q x.vehicle → vehicles (filter p (filter (λ m. q m.vehicle) L)) ≡ filter q (vehicles (filter p L)) → vehicles (filter p (cond c (x ∷ filter (λ m. q m.vehicle) L) (filter (λ m. q m.vehicle) L))) ≡ filter q (vehicles (cond b (x ∷ filter p L) (filter p L)))
    by_step true true e f h = rw (← e, ← f) (ap (λ K. x.vehicle ∷ K) h)
    by_step true false e f h = rw (← f) h
    by_step false true e f h = rw (← e) h
    by_step false false e f h = h

-- a queue after more moves: those who stayed, and then the queue of these moves alone
pub queue-append : (l : ℕ) (T N : List Move) → queue_of l (T ++ N) ≡ staying N (queue_of l T) ++ queue_of l N
unfolding queue_of
queue-append l T N =
    ap (λ L. vehicles (filter (leads_to l) L)) (last_moves-append T N)
    ∙ ap (λ L. vehicles L) (filter-append (leads_to l) (filter (λ m. not (has_moved m.vehicle N)) (last_moves T)) (last_moves N))
    ∙ map-append (λ m. m.vehicle) (filter (leads_to l) (filter (λ m. not (has_moved m.vehicle N)) (last_moves T))) (filter (leads_to l) (last_moves N))
    ∙ ap (λ Q. Q ++ vehicles (filter (leads_to l) (last_moves N))) (by_vehicle (leads_to l) (λ v. not (has_moved v N)) (last_moves T))

-- where nobody moves twice each move is a last one
not_in : (v : ℕ) (M : List Move) → absent v (vehicles M) ≡ true → has_moved v M ≡ false
unfolding has_moved
not_in v [] a = refl
not_in v (m ∷ M) a = not_step (eqb m.vehicle v) a (not_in v M)
  where
    not_step : (b : Bool) → not (b || list_any (λ y. eqb y v) (vehicles M)) ≡ true → (absent v (vehicles M) ≡ true → list_any (is_of v) M ≡ false) → (b || list_any (is_of v) M) ≡ false
    not_step true e ih = cc
    not_step false e ih = ih e

lasts-distinct : (M : List Move) → distinct (vehicles M) ≡ true → last_moves M ≡ M
unfolding last_moves
lasts-distinct [] d = refl
lasts-distinct (m ∷ M) d = let parts = and_parts (absent m.vehicle (vehicles M)) (distinct (vehicles M)) d in rw (not_in m.vehicle M parts.0) (ap (λ L. m ∷ L) (lasts-distinct M parts.1))

filter_kept : (q : ℕ → Bool) (xs : List ℕ) → ((i v : ℕ) → slice_get xs i ≡ Some v → q v ≡ true) → filter q xs ≡ xs
filter_kept q [] h = refl
filter_kept q (x ∷ xs) h = rw (h 0 x refl) (ap (λ ys. x ∷ ys) (filter_kept q xs (λ i v e. h (suc i) v e)))

pub filter_like : (f g : ℕ → Bool) (xs : List ℕ) → ((i v : ℕ) → slice_get xs i ≡ Some v → f v ≡ g v) → filter f xs ≡ filter g xs
filter_like f g [] h = refl
filter_like f g (x ∷ xs) h = rw (h 0 x refl, filter_like f g xs (λ i v e. h (suc i) v e)) refl

pub map_like : (f g : ℕ → RiderState) (xs : List ℕ) → ((i v : ℕ) → slice_get xs i ≡ Some v → f v ≡ g v) → map f xs ≡ map g xs
map_like f g [] h = refl
map_like f g (x ∷ xs) h = rw (h 0 x refl, map_like f g xs (λ i v e. h (suc i) v e)) refl

-- who stays on in a filtered list passes, and stands in the whole list
pub kept_at : (q : ℕ → Bool) (xs : List ℕ) (i v : ℕ) → slice_get (filter q xs) i ≡ Some v → (q v ≡ true) × ((j : ℕ) × (slice_get xs j ≡ Some v))
kept_at q [] i v h = cc
kept_at q (x ∷ xs) i v h = kept_step (q x) i refl h (kept_at q xs)
  where
    kept_step : (b : Bool) (k : ℕ) → b ≡ q x → slice_get (cond b (x ∷ filter q xs) (filter q xs)) k ≡ Some v → ((j w : ℕ) → slice_get (filter q xs) j ≡ Some w → (q w ≡ true) × ((n : ℕ) × (slice_get xs n ≡ Some w))) → (q v ≡ true) × ((j : ℕ) × (slice_get (x ∷ xs) j ≡ Some v))
    kept_step true zero r e ih = let same = same_Some x v e in (subst (λ w. q w ≡ true) same (sym r), (0, ap (λ w. Some w) same))
    kept_step true (suc k) r e ih = let y = ih k v e in (y.0, (suc (y.1.0), y.1.1))
    kept_step false k r e ih = let y = ih k v e in (y.0, (suc (y.1.0), y.1.1))

module _ (p : Plan) (t : ℕ) (T : List Move) where
  -- who moves at a node stands there at the start of the step
  pub mover_at : (n v : ℕ) → has_moved v (node_moves p n t T) ≡ true → node_of p T v ≡ Some n
  mover_at n v h = of_mover (λ w. node_of p T w ≡ Some n) v (node_moves p n t T) (All-weaker (AtNode p n t T) (λ m. node_of p T m.vehicle ≡ Some n) (λ m a. a.stood) (node_moves p n t T) (at-node p n t T)) h

  pub elsewhere : (n a v : ℕ) → node_of p T v ≡ Some n → a ≢ n → has_moved v (node_moves p a t T) ≡ false
  elsewhere n a v h other = false_from_ne_true (has_moved v (node_moves p a t T)) (λ e. other (same_Some a n (sym (mover_at a v e) ∙ h)))

  -- the moves of a vehicle at the nodes from one on, where its own node comes before them
  past : (k from n v : ℕ) → node_of p T v ≡ Some n → n < from → moves_of v (flat_map (λ a. node_moves p a t T) (range_with_len from k)) ≡ []
  unfolding moves_of
  past zero from n v h l = refl
  past (suc k) from n v h l =
      moves_of-append v (node_moves p from t T) (flat_map (λ a. node_moves p a t T) (range_with_len (from + 1) k))
      ∙ ap (λ L. L ++ moves_of v (flat_map (λ a. node_moves p a t T) (range_with_len (from + 1) k))) (no-moves v (node_moves p from t T) (elsewhere n from v h (apart_from n from l)))
      ∙ past k (from + 1) n v h (omega (arith, l))

  -- and where it is among them
  own : (k from n v : ℕ) → node_of p T v ≡ Some n → from ≤ n → n < from + k → moves_of v (flat_map (λ a. node_moves p a t T) (range_with_len from k)) ≡ moves_of v (node_moves p n t T)
  own zero from n v h low high = absurd (omega (arith, low, high))
  own (suc k) from n v h low high = moves_of-append v (node_moves p from t T) (flat_map (λ a. node_moves p a t T) (range_with_len (from + 1) k)) ∙ own_step (eqb_tells from n) (past k (from + 1) n v h) (own k (from + 1) n v h)
    where
      own_step : ((eqb from n ≡ true) × (from ≡ n)) ⊎ ((eqb from n ≡ false) × (from ≢ n))
          → (n < from + 1 → moves_of v (flat_map (λ a. node_moves p a t T) (range_with_len (from + 1) k)) ≡ [])
          → (from + 1 ≤ n → n < from + 1 + k → moves_of v (flat_map (λ a. node_moves p a t T) (range_with_len (from + 1) k)) ≡ moves_of v (node_moves p n t T))
          → moves_of v (node_moves p from t T) ++ moves_of v (flat_map (λ a. node_moves p a t T) (range_with_len (from + 1) k)) ≡ moves_of v (node_moves p n t T)
      own_step (inl (s, same)) after ih = rw (after (omega (arith, same))) (append-nil (moves_of v (node_moves p from t T)) ∙ ap (λ a. moves_of v (node_moves p a t T)) same)
      own_step (inr (s, other)) after ih = rw (no-moves v (node_moves p from t T) (elsewhere n from v h other)) (ih (omega (arith, low, other)) (omega (arith, high)))

  -- the moves that lead to a link are those of its first node
  not-led : (l a : ℕ) → a ≢ (link_at p l).from.0 → All (λ m. leads_to l m ≡ false) (node_moves p a t T)
  not-led l a other = All-weaker (AtNode p a t T) (λ m. leads_to l m ≡ false) (λ m x. false_from_ne_true (leads_to l m) (λ e. other (sym (x.leads l e)))) (node_moves p a t T) (at-node p a t T)

  none_past : (k from l : ℕ) → (link_at p l).from.0 < from → All (λ m. leads_to l m ≡ false) (flat_map (λ a. node_moves p a t T) (range_with_len from k))
  none_past zero from l h = All-nil (λ m. leads_to l m ≡ false)
  none_past (suc k) from l h = All-append (λ m. leads_to l m ≡ false) (node_moves p from t T) _ (not-led l from (apart_from (link_at p l).from.0 from h)) (none_past k (from + 1) l (omega (arith, h)))

  unmoved : (v : ℕ) (N : List Move) → moves_of v N ≡ [] → has_moved v N ≡ false
  unmoved v N e = has_moved_is v N ∙ ap (λ L. list_any (λ _. true) L) e

  came : (k from l : ℕ) → from ≤ (link_at p l).from.0 → (link_at p l).from.0 < from + k → queue_of l (flat_map (λ a. node_moves p a t T) (range_with_len from k)) ≡ queue_of l (node_moves p (link_at p l).from.0 t T)
  came zero from l low high = absurd (omega (arith, low, high))
  came (suc k) from l low high = queue-append l (node_moves p from t T) (flat_map (λ a. node_moves p a t T) (range_with_len (from + 1) k)) ∙ came_step (eqb_tells from (link_at p l).from.0) (none_past k (from + 1) l) (came k (from + 1) l)
    where
      came_step : ((eqb from (link_at p l).from.0 ≡ true) × (from ≡ (link_at p l).from.0)) ⊎ ((eqb from (link_at p l).from.0 ≡ false) × (from ≢ (link_at p l).from.0))
          → ((link_at p l).from.0 < from + 1 → All (λ m. leads_to l m ≡ false) (flat_map (λ a. node_moves p a t T) (range_with_len (from + 1) k)))
          → (from + 1 ≤ (link_at p l).from.0 → (link_at p l).from.0 < from + 1 + k → queue_of l (flat_map (λ a. node_moves p a t T) (range_with_len (from + 1) k)) ≡ queue_of l (node_moves p (link_at p l).from.0 t T))
          → staying (flat_map (λ a. node_moves p a t T) (range_with_len (from + 1) k)) (queue_of l (node_moves p from t T)) ++ queue_of l (flat_map (λ a. node_moves p a t T) (range_with_len (from + 1) k)) ≡ queue_of l (node_moves p (link_at p l).from.0 t T)
      came_step (inl (s, same)) after ih =
          let rest = flat_map (λ a. node_moves p a t T) (range_with_len (from + 1) k) in
          let empty : queue_of l rest ≡ [] = nobody-on l rest (after (omega (arith, same))) in
          let kept : staying rest (queue_of l (node_moves p from t T)) ≡ queue_of l (node_moves p from t T) = filter_kept (λ v. not (has_moved v rest)) (queue_of l (node_moves p from t T)) (λ i v e. ap not (unmoved v rest (past k (from + 1) from v (stood i v e) (omega arith)))) in
          rw (empty, kept) (append-nil (queue_of l (node_moves p from t T)) ∙ ap (λ a. queue_of l (node_moves p a t T)) same)
        where
          stood : (i v : ℕ) → slice_get (queue_of l (node_moves p from t T)) i ≡ Some v → node_of p T v ≡ Some from
          stood i v e = let x = in-queue l (node_moves p from t T) i v e in mover_at from v (has_moved-if v (node_moves p from t T) (x.0) (x.1))
      came_step (inr (s, other)) after ih =
          let empty : queue_of l (node_moves p from t T) ≡ [] = nobody-on l (node_moves p from t T) (not-led l from other) in
          rw empty (ih (omega (arith, low, other)) (omega (arith, high)))

-- the moves of a vehicle in a step are those at its node
pub own-at : (p : Plan) (t : ℕ) (T : List Move) (n v : ℕ) → node_of p T v ≡ Some n → n < length p.net.nodes → moves_of v (step_moves p t T (all_nodes p)) ≡ moves_of v (node_moves p n t T)
own-at p t T n v h below = own p t T (length p.net.nodes) 0 n v h (omega arith) (omega (arith, below))

-- a rider by the moves of its vehicle
pub rider-like : (p : Plan) (T U : List Move) (v : ℕ) → moves_of v T ≡ moves_of v U → rider_at p T v ≡ rider_at p U v
unfolding rider_at entries_of arrival_of
rider-like p T U v e = ap (λ L. record { number = v; departure = departure_of p v; ahead = drop (length (map (λ m. m.step) (filter is_entry L))) (route_of p v); entries = map (λ m. m.step) (filter is_entry L); arrival = step_in (find (λ m. not (is_entry m)) L) }) e

pub alone : (p : Plan) → IsSteady p → (t : ℕ) (T : List Move) (n l : ℕ) → queue_of l (node_moves p n t T) ≡ brought l (node_moves p n t T)
unfolding queue_of brought
alone p sound t T n l = ap (λ L. vehicles (filter (leads_to l) L)) (lasts-distinct (node_moves p n t T) (one-step p sound n t T).each)

module _ (p : Plan) (sound : IsSteady p) (t : ℕ) (T : List Move) (l : ℕ) (table : l < length p.net.links) where
  stands-at : (i v : ℕ) → slice_get (queue_of l T) i ≡ Some v → node_of p T v ≡ Some (link_at p l).to.0
  unfolding node_of
  stands-at i v e = let x = in-queue l T i v e in ap (λ o. node_by p o (first_link p v)) (x.1) ∙ to_link p l (x.0).target (x.2)

  own-moves : (n v : ℕ) → node_of p T v ≡ Some n → n < length p.net.nodes → moves_of v (step_moves p t T (all_nodes p)) ≡ moves_of v (node_moves p n t T)
  own-moves n v h below = own p t T (length p.net.nodes) 0 n v h (omega arith) (omega (arith, below))

  came-here : queue_of l (step_moves p t T (all_nodes p)) ≡ brought l (node_moves p (link_at p l).from.0 t T)
  unfolding brought
  came-here = came p t T (length p.net.nodes) 0 l (omega arith) (omega (arith, (sound.ends l table).0)) ∙ alone p sound t T (link_at p l).from.0 l

  -- those who stay
  stayed : staying (step_moves p t T (all_nodes p)) (queue_of l T) ≡ staying (node_moves p (link_at p l).to.0 t T) (queue_of l T)
  stayed =
      filter_like (λ v. not (has_moved v (step_moves p t T (all_nodes p)))) (λ v. not (has_moved v (node_moves p (link_at p l).to.0 t T))) (queue_of l T)
      (λ i v e. ap not (has_moved_is v (step_moves p t T (all_nodes p)) ∙ ap (λ L. list_any (λ _. true) L) (own-moves (link_at p l).to.0 v (stands-at i v e) (sound.ends l table).1) ∙ sym (has_moved_is v (node_moves p (link_at p l).to.0 t T))))

  stay-like : (i v : ℕ) → slice_get (staying (node_moves p (link_at p l).to.0 t T) (queue_of l T)) i ≡ Some v → rider_at p (T ++ step_moves p t T (all_nodes p)) v ≡ rider_at p T v
  stay-like i v e =
      let k = kept_at (λ w. not (has_moved w (node_moves p (link_at p l).to.0 t T))) (queue_of l T) i v e in
      let still : has_moved v (node_moves p (link_at p l).to.0 t T) ≡ false = not-true _ (k.0) in
      rider-like p (T ++ step_moves p t T (all_nodes p)) T v
      (moves_of-append v T (step_moves p t T (all_nodes p))
      ∙ ap (λ L. moves_of v T ++ L) (own-moves (link_at p l).to.0 v (stands-at (k.1.0) v (k.1.1)) (sound.ends l table).1 ∙ no-moves v (node_moves p (link_at p l).to.0 t T) still)
      ∙ append-nil (moves_of v T))

  batch-like : (i v : ℕ) → slice_get (brought l (node_moves p (link_at p l).from.0 t T)) i ≡ Some v → rider_at p (T ++ step_moves p t T (all_nodes p)) v ≡ rider_at p (T ++ node_moves p (link_at p l).from.0 t T) v
  batch-like i v e =
      let x = in-queue l (node_moves p (link_at p l).from.0 t T) i v (ap (λ Q. slice_get Q i) (alone p sound t T (link_at p l).from.0 l) ∙ e) in
      let at = mover_at p t T (link_at p l).from.0 v (has_moved-if v (node_moves p (link_at p l).from.0 t T) (x.0) (x.1)) in
      rider-like p (T ++ step_moves p t T (all_nodes p)) (T ++ node_moves p (link_at p l).from.0 t T) v
      (moves_of-append v T (step_moves p t T (all_nodes p)) ∙ ap (λ L. moves_of v T ++ L) (own-moves (link_at p l).from.0 v at (sound.ends l table).0) ∙ sym (moves_of-append v T (node_moves p (link_at p l).from.0 t T)))

  pub gathered : riders p (T ++ step_moves p t T (all_nodes p)) (queue_of l (T ++ step_moves p t T (all_nodes p)))
      ≡ riders p T (staying (node_moves p (link_at p l).to.0 t T) (queue_of l T)) ++ riders p (T ++ node_moves p (link_at p l).from.0 t T) (brought l (node_moves p (link_at p l).from.0 t T))
  gathered =
      let U = T ++ step_moves p t T (all_nodes p) in
      let S = staying (node_moves p (link_at p l).to.0 t T) (queue_of l T) in
      let B = brought l (node_moves p (link_at p l).from.0 t T) in
      let parts : queue_of l U ≡ S ++ B = queue-append l T (step_moves p t T (all_nodes p)) ∙ ap (λ Q. Q ++ queue_of l (step_moves p t T (all_nodes p))) stayed ∙ ap (λ Q. S ++ Q) came-here in
      ap (λ Q. map (rider_at p U) Q) parts ∙ map-append (rider_at p U) S B
      ∙ ap (λ Q. Q ++ map (rider_at p U) B) (map_like (rider_at p U) (rider_at p T) S stay-like)
      ∙ ap (λ Q. map (rider_at p T) S ++ Q) (map_like (rider_at p U) (rider_at p (T ++ node_moves p (link_at p l).from.0 t T)) B batch-like)

pub lines_gather : LinesGather
unfolding line_before line_after batch_mail trace_after after_step
lines_gather p sound t l table = gathered p (steady_of p sound) t (trace_after p t) l table
