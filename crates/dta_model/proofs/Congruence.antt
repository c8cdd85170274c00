-- The moves of a node are the same by traces that tell the same.
use Rattle.net_core.specs.Network.{numbers_below}
use Rattle.std.specs.List.{list_any}
use Rattle.std.specs.Prelude.{find, count_by, slice_get, nat_lt, nat_le}
use Rattle.std.proofs.Common.{◌≡◌, ℕ, zero, suc, ◌+◌, ◌-◌, Bool, true, cond, ◌&&◌, not, List, [], ◌∷◌, ◌++◌, length, refl, ap, sym, ◌∙◌, Option, Some, None}
use Rattle.std.proofs.lemmas.List.Sums.{sum_by-cons}
use Rattle.dta_model.specs.declared.plan.Plan.{Plan}
use Rattle.dta_model.specs.NodeMoves.{admission, admit, entered, first_move, first_of, grow, grown, head_move, in_order, is_first, leave_move, left, may_enter, may_move, may_turn, next_move, node_moves, turn_test, turned, waits_for, where_true}
use Rattle.dta_model.specs.Plans.{departure_of, first_link, link_allowance, link_at, outs, route_of, turn, vehicle_count}
use Rattle.dta_model.specs.Room.{entered_by, has_room, left_below, room, room_by, wave_of}
use Rattle.dta_model.specs.declared.queue.Queue.{Queue}
use Rattle.dta_model.specs.declared.queue.Queue.TheVariants as queue
use Rattle.dta_model.specs.Trace.{Arrived, Move, Onto, Target, has_moved, last_move, leads_there, leads_to, next_target, queue_of, stands_on, target_at}
use Rattle.net_core.specs.declared.rows.Turn.{Turn}
use Rattle.dta_model.proofs.Pushes.{moves_made_is, has_moved_is}
use Rattle.dta_model.proofs.Same.{Same, Same-append}

pub count_same : {X : Type 0} (f g : X → Bool) → ((x : X) → f x ≡ g x) → (xs : List X) → count_by f xs ≡ count_by g xs
count_same f g e [] = refl
count_same f g e (x ∷ xs) = sum_by-cons (λ y. cond (f y) 1 0) x xs ∙ (rw (e x, count_same f g e xs) refl) ∙ sym (sum_by-cons (λ y. cond (g y) 1 0) x xs)

pub find_alike : (f g : ℕ → Bool) → ((x : ℕ) → f x ≡ g x) → (xs : List ℕ) → find f xs ≡ find g xs
find_alike f g e [] = refl
find_alike f g e (x ∷ xs) = rw (e x, find_alike f g e xs) refl

pub first_alike : (f g : ℕ → Option Move) → ((x : ℕ) → f x ≡ g x) → (xs : List ℕ) → first_of f xs ≡ first_of g xs
first_alike f g e [] = refl
first_alike f g e (x ∷ xs) = rw (e x, first_alike f g e xs) refl

pub has_moved-same : (T U : List Move) → Same T U → (v : ℕ) → has_moved v T ≡ has_moved v U
has_moved-same T U s v = has_moved_is v T ∙ ap (λ L. list_any (λ _. true) L) (s.moves v) ∙ sym (has_moved_is v U)

pub next_target-same : (p : Plan) (T U : List Move) → Same T U → (v : ℕ) → next_target p T v ≡ next_target p U v
unfolding next_target
next_target-same p T U s v = ap (λ k. target_at (slice_get (route_of p v) k)) (moves_made_is v T ∙ ap (λ L. length L) (s.moves v) ∙ sym (moves_made_is v U))

pub room-same : (p : Plan) (l t : ℕ) (T U : List Move) → Same T U → room p l t T ≡ room p l t U
unfolding room
room-same p l t T U s = by_queue p.queue
  where
    by_queue : (q : Queue) → room_by p q l t T ≡ room_by p q l t U
    by_queue queue.Point = refl
    by_queue queue.Spatial = ap (λ Q. Some ((link_at p l).storage - length Q)) (s.queues l)
    by_queue (queue.Newell wave) =
        ap (λ k. Some ((link_at p l).storage + k - entered_by T l)) (s.left (λ m. nat_lt m.step (suc t - wave_of p l)) l)
        ∙ ap (λ k. Some ((link_at p l).storage + left_below (suc t - wave_of p l) U l - k)) (s.entered l)

module _ (p : Plan) (n t : ℕ) (T U : List Move) (s : Same T U) where
  stands_on-same : (l v : ℕ) → stands_on l T v ≡ stands_on l U v
  unfolding stands_on
  stands_on-same l v = ap (λ o. leads_there l o) (s.last v)

  left-same : (M : List Move) (l : ℕ) → left p n t T M l ≡ left p n t U M l
  unfolding left
  left-same M l = count_same (λ m. stands_on l T m.vehicle) (λ m. stands_on l U m.vehicle) (λ m. stands_on-same l m.vehicle) M

  turned-same : (M : List Move) (l b : ℕ) → turned p n t T M l b ≡ turned p n t U M l b
  unfolding turned
  turned-same M l b = count_same (λ m. leads_to b m && stands_on l T m.vehicle) (λ m. leads_to b m && stands_on l U m.vehicle) (λ m. ap (λ c. leads_to b m && c) (stands_on-same l m.vehicle)) M

  may_enter-same : (M : List Move) (b : ℕ) → may_enter p n t T M b ≡ may_enter p n t U M b
  unfolding may_enter entered
  may_enter-same M b = ap (λ r. nat_lt (count_by (leads_to b) M) (link_allowance p b t) && has_room r (count_by (leads_to b) M)) (room-same p b t T U s)

  may_turn-same : (M : List Move) (ready l b : ℕ) → may_turn p n t T M ready l b ≡ may_turn p n t U M ready l b
  unfolding may_turn
  may_turn-same M ready l b = test_same (turn p l b)
    where
      test_same : (o : Option Turn) → turn_test p n t T M ready l b o ≡ turn_test p n t U M ready l b o
      test_same None = refl
      test_same (Some way) = rw (turned-same M l b, may_enter-same M b) refl

  may_move-same : (M : List Move) (l ready : ℕ) (x : Target) → may_move p n t T M l ready x ≡ may_move p n t U M l ready x
  unfolding may_move
  may_move-same M l ready Arrived = rw (left-same M l) refl
  may_move-same M l ready (Onto b) = rw (left-same M l, may_turn-same M ready l b) refl

  leave_move-same : (M : List Move) (l v : ℕ) (e : Option Move) (x : Target) → leave_move p n t T M l v e x ≡ leave_move p n t U M l v e x
  unfolding leave_move
  leave_move-same M l v None x = refl
  leave_move-same M l v (Some entry) x = ap (λ c. where_true c (record { step = t; vehicle = v; target = x })) (may_move-same M l (entry.step + (link_at p l).free) x)

  first_move-same : (M : List Move) (l : ℕ) (o : Option ℕ) → first_move p n t T M l o ≡ first_move p n t U M l o
  unfolding first_move
  first_move-same M l None = refl
  first_move-same M l (Some v) =
      let both = Same-append M T U s in
      leave_move-same M l v (last_move v (T ++ M)) (next_target p (T ++ M) v)
      ∙ ap (λ e. leave_move p n t U M l v e (next_target p (T ++ M) v)) (both.last v)
      ∙ ap (λ x. leave_move p n t U M l v (last_move v (U ++ M)) x) (next_target-same p (T ++ M) (U ++ M) both v)

  head_move-same : (M : List Move) (l : ℕ) → head_move p n t T M l ≡ head_move p n t U M l
  unfolding head_move
  head_move-same M l =
      let both = Same-append M T U s in
      first_move-same M l (slice_get (queue_of l (T ++ M)) 0) ∙ ap (λ Q. first_move p n t U M l (slice_get Q 0)) (both.queues l)

  waits_for-same : (M : List Move) (b v : ℕ) → waits_for p n t T M b v ≡ waits_for p n t U M b v
  unfolding waits_for
  waits_for-same M b v = ap (λ c. is_first b (first_link p v) && nat_le (departure_of p v) t && not c) (has_moved-same (T ++ M) (U ++ M) (Same-append M T U s) v)

  admit-same : (M : List Move) (b : ℕ) (o : Option ℕ) → admit p n t T M b o ≡ admit p n t U M b o
  unfolding admit
  admit-same M b None = refl
  admit-same M b (Some v) = ap (λ c. where_true c (record { step = t; vehicle = v; target = Onto b })) (may_enter-same M b)

  admission-same : (M : List Move) (b : ℕ) → admission p n t T M b ≡ admission p n t U M b
  unfolding admission
  admission-same M b =
      admit-same M b (find (waits_for p n t T M b) (numbers_below (vehicle_count p)))
      ∙ ap (λ o. admit p n t U M b o) (find_alike (waits_for p n t T M b) (waits_for p n t U M b) (waits_for-same M b) (numbers_below (vehicle_count p)))

  next_move-same : (M : List Move) → next_move p n t T M ≡ next_move p n t U M
  unfolding next_move in_order
  next_move-same M =
      rw (first_alike (head_move p n t T M) (head_move p n t U M) (head_move-same M) _, first_alike (admission p n t T M) (admission p n t U M) (admission-same M) (outs p n)) refl

  grow-same : (f g : List Move → List Move) → ((M : List Move) → f M ≡ g M) → (M : List Move) (o : Option Move) → grow f M o ≡ grow g M o
  grow-same f g e M None = refl
  grow-same f g e M (Some m) = e (M ++ m ∷ [])

  grown-same : (fuel : ℕ) (M : List Move) → grown p n t T fuel M ≡ grown p n t U fuel M
  unfolding grown
  grown-same zero M = refl
  grown-same (suc fuel) M = grow-same (grown p n t T fuel) (grown p n t U fuel) (grown-same fuel) M (next_move p n t T M) ∙ ap (λ o. grow (grown p n t U fuel) M o) (next_move-same M)

  -- the moves of a node in a step
  pub moves-same : node_moves p n t T ≡ node_moves p n t U
  unfolding node_moves
  moves-same = grown-same (vehicle_count p) []
