-- What a next move is.
use Rattle.net_core.specs.Network as network
use Rattle.net_core.specs.Network.{numbers_below}
use Rattle.std.specs.List.{range_with_len}
use Rattle.std.specs.Prelude.{filter, find, slice_get, All, nat_eq}
use Rattle.std.proofs.Common.{◌≡◌, ℕ, zero, suc, ◌+◌, ◌%◌, ◌<◌, Bool, true, false, cond, List, [], ◌∷◌, ◌++◌, length, refl, sym, subst, arith, Option, Some, None, ◌⊎◌, inl, inr}
use Rattle.std.proofs.lemmas.List.Elements.{All-head, All-tail, All-append, All-take, All-drop, filter_passes}
use Rattle.dta_model.specs.declared.plan.Plan.{Plan}
use Rattle.dta_model.specs.NodeMoves.{admission, admit, either, first_move, first_of, grow, grown, head_move, in_order, leave_move, may_enter, may_move, next_move, node_moves, waits_for, where_true}
use Rattle.dta_model.specs.Plans.{link_at, outs, vehicle_count}
use Rattle.dta_model.specs.Trace.{Move, Onto, Target, last_move, next_target, queue_of}

-- a first one that there is
pub record First (P : ℕ → Type 0) (f : ℕ → Option Move) (m : Move) : Type 0 where
  pub link : ℕ
  pub is : P link
  pub gives : f link ≡ Some m

either_cases : (o other : Option Move) (m : Move) → either o other ≡ Some m → (o ≡ Some m) ⊎ (other ≡ Some m)
either_cases None other m h = inr h
either_cases (Some x) other m h = inl h

pub first_of-some : (P : ℕ → Type 0) (f : ℕ → Option Move) (ls : List ℕ) (m : Move) → All P ls → first_of f ls ≡ Some m → First P f m
first_of-some P f [] m all h = cc
first_of-some P f (l ∷ ls) m all h = first_step (either_cases (f l) (first_of f ls) m h) (first_of-some P f ls m (All-tail P l ls all))
  where
    first_step : (f l ≡ Some m) ⊎ (first_of f ls ≡ Some m) → (first_of f ls ≡ Some m → First P f m) → First P f m
    first_step (inl e) ih = record { link = l; is = All-head P l ls all; gives = e }
    first_step (inr e) ih = ih e

where_cases : (b : Bool) (x m : Move) → where_true b x ≡ Some m → (b ≡ true) × (x ≡ m)
where_cases true x m h = (refl, some_move x m h)
  where
    some_move : (x m : Move) → Some x ≡ Some m → x ≡ m
    some_move x m h = cc
where_cases false x m h = cc

module _ (p : Plan) (n t : ℕ) (T0 : List Move) where
  -- a move of the head of link l
  pub record OfHead (M : List Move) (l : ℕ) (m : Move) : Type 0 where
    pub first : slice_get (queue_of l (T0 ++ M)) 0 ≡ Some m.vehicle
    pub now : m.step ≡ t
    pub goes : m.target ≡ next_target p (T0 ++ M) m.vehicle
    pub entry : Move
    pub entered : last_move m.vehicle (T0 ++ M) ≡ Some entry
    pub may : may_move p n t T0 M l (entry.step + (link_at p l).free) m.target ≡ true

  -- the admission of a vehicle to link b
  pub record OfWaiting (M : List Move) (b : ℕ) (m : Move) : Type 0 where
    pub now : m.step ≡ t
    pub goes : m.target ≡ Onto b
    pub waits : waits_for p n t T0 M b m.vehicle ≡ true
    pub may : may_enter p n t T0 M b ≡ true
    pub below : m.vehicle < vehicle_count p

  leave_cases : (M : List Move) (l v : ℕ) (e : Option Move) (x : Target) (m : Move) → slice_get (queue_of l (T0 ++ M)) 0 ≡ Some v → last_move v (T0 ++ M) ≡ e → x ≡ next_target p (T0 ++ M) v → leave_move p n t T0 M l v e x ≡ Some m → OfHead M l m
  unfolding leave_move
  leave_cases M l v None x m q e y h = cc
  leave_cases M l v (Some entry) x m q e y h =
      let c = where_cases (may_move p n t T0 M l (entry.step + (link_at p l).free) x) (record { step = t; vehicle = v; target = x }) m h in
      subst (λ k. OfHead M l k) c.1 (record { first = q; now = refl; goes = y; entry = entry; entered = e; may = c.0 })

  first_cases : (M : List Move) (l : ℕ) (o : Option ℕ) (m : Move) → slice_get (queue_of l (T0 ++ M)) 0 ≡ o → first_move p n t T0 M l o ≡ Some m → OfHead M l m
  unfolding first_move
  first_cases M l None m q h = cc
  first_cases M l (Some v) m q h = leave_cases M l v (last_move v (T0 ++ M)) (next_target p (T0 ++ M) v) m q refl refl h

  pub head_cases : (M : List Move) (l : ℕ) (m : Move) → head_move p n t T0 M l ≡ Some m → OfHead M l m
  unfolding head_move
  head_cases M l m h = first_cases M l (slice_get (queue_of l (T0 ++ M)) 0) m refl h

  -- what is found passes and is in the list
  found : (test : ℕ → Bool) (k from v : ℕ) → find test (range_with_len from k) ≡ Some v → (test v ≡ true) × (v < from + k)
  found test zero from v h = cc
  found test (suc k) from v h = found_step (test from) refl h (found test k (from + 1) v)
    where
      found_step : (b : Bool) → b ≡ test from → cond b (Some from) (find test (range_with_len (from + 1) k)) ≡ Some v → (find test (range_with_len (from + 1) k) ≡ Some v → (test v ≡ true) × (v < from + 1 + k)) → (test v ≡ true) × (v < from + suc k)
      found_step true r h ih = let e : from ≡ v = cc in (subst (λ w. test w ≡ true) e (sym r), omega (arith, e))
      found_step false r h ih = let rest = ih h in (rest.0, omega (arith, rest.1))

  admit_cases : (M : List Move) (b : ℕ) (o : Option ℕ) (m : Move) → find (waits_for p n t T0 M b) (numbers_below (vehicle_count p)) ≡ o → admit p n t T0 M b o ≡ Some m → OfWaiting M b m
  unfolding admit
  admit_cases M b None m q h = cc
  admit_cases M b (Some v) m q h =
      let c = where_cases (may_enter p n t T0 M b) (record { step = t; vehicle = v; target = Onto b }) m h in
      let f = found (waits_for p n t T0 M b) (vehicle_count p) 0 v q in
      subst (λ k. OfWaiting M b k) c.1 (record { now = refl; goes = refl; waits = f.0; may = c.0; below = omega (arith, f.1) })

  pub waiting_cases : (M : List Move) (b : ℕ) (m : Move) → admission p n t T0 M b ≡ Some m → OfWaiting M b m
  unfolding admission
  waiting_cases M b m h = admit_cases M b (find (waits_for p n t T0 M b) (numbers_below (vehicle_count p))) m refl h

  -- a next move is of the head of an in-link, or the admission to an out-link
  pub data Kind (M : List Move) (m : Move) : Type 0 where
    head : (l : ℕ) → nat_eq (link_at p l).to.0 n ≡ true → OfHead M l m → Kind M m
    waiting : (b : ℕ) → nat_eq (link_at p b).from.0 n ≡ true → OfWaiting M b m → Kind M m

  all_in : All (λ l. nat_eq (link_at p l).to.0 n ≡ true) (in_order p n t T0)
  unfolding in_order network.ins
  all_in =
      let all = filter_passes (λ l. nat_eq (link_at p l).to.0 n) (numbers_below (length p.net.links)) in
      let k = t % length (filter (λ l. nat_eq (link_at p l).to.0 n) (numbers_below (length p.net.links))) in
      All-append (λ l. nat_eq (link_at p l).to.0 n ≡ true) _ _ (All-drop (λ l. nat_eq (link_at p l).to.0 n ≡ true) k _ all) (All-take (λ l. nat_eq (link_at p l).to.0 n ≡ true) k _ all)

  all_out : All (λ l. nat_eq (link_at p l).from.0 n ≡ true) (outs p n)
  unfolding network.outs
  all_out = filter_passes (λ l. nat_eq (link_at p l).from.0 n) (numbers_below (length p.net.links))

  pub next_cases : (M : List Move) (m : Move) → next_move p n t T0 M ≡ Some m → Kind M m
  unfolding next_move
  next_cases M m h = next_step (either_cases (first_of (head_move p n t T0 M) (in_order p n t T0)) (first_of (admission p n t T0 M) (outs p n)) m h)
    where
      next_step : (first_of (head_move p n t T0 M) (in_order p n t T0) ≡ Some m) ⊎ (first_of (admission p n t T0 M) (outs p n) ≡ Some m) → Kind M m
      next_step (inl e) = let f = first_of-some (λ l. nat_eq (link_at p l).to.0 n ≡ true) (head_move p n t T0 M) (in_order p n t T0) m all_in e in head f.link f.is (head_cases M f.link m f.gives)
      next_step (inr e) = let f = first_of-some (λ l. nat_eq (link_at p l).from.0 n ≡ true) (admission p n t T0 M) (outs p n) m all_out e in waiting f.link f.is (waiting_cases M f.link m f.gives)

  -- what each next move keeps is true of the moves of the node
  pub grown-keeps : (P : List Move → Type 0) → ((M : List Move) (m : Move) → P M → next_move p n t T0 M ≡ Some m → P (M ++ m ∷ [])) → (fuel : ℕ) (M : List Move) → P M → P (grown p n t T0 fuel M)
  unfolding grown
  grown-keeps P step zero M h = h
  grown-keeps P step (suc fuel) M h = keeps_step (next_move p n t T0 M) refl (λ m e. grown-keeps P step fuel (M ++ m ∷ []) (step M m h e))
    where
      keeps_step : (o : Option Move) → next_move p n t T0 M ≡ o → ((m : Move) → next_move p n t T0 M ≡ Some m → P (grown p n t T0 fuel (M ++ m ∷ []))) → P (grow (grown p n t T0 fuel) M o)
      keeps_step None e ih = h
      keeps_step (Some m) e ih = ih m e

  pub moves-keep : (P : List Move → Type 0) → ((M : List Move) (m : Move) → P M → next_move p n t T0 M ≡ Some m → P (M ++ m ∷ [])) → P [] → P (node_moves p n t T0)
  unfolding node_moves
  moves-keep P step h = grown-keeps P step (vehicle_count p) [] h
