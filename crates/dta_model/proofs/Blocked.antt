-- What blocks a vehicle isn't given back within a step.
use Rattle.net_core.specs.Network.{numbers_below}
use Rattle.std.specs.Prelude.{find, count_by, slice_get, nat_lt, nat_le}
use Rattle.std.proofs.Common.{◌≡◌, ℕ, ◌+◌, ◌≤◌, Bool, true, false, cond, ◌&&◌, ◌||◌, not, List, [], ◌∷◌, ◌++◌, refl, ap, sym, ◌∙◌, arith, append_assoc, Option, Some, None}
use Rattle.std.proofs.lemmas.Bool.{eqb-false, ne_eqb}
use Rattle.std.proofs.lemmas.Bool.Decides.{nat_tests}
use Rattle.std.proofs.lemmas.List.Sums.{sum_by-append}
use Rattle.std.proofs.Math.Dec.{eqb}
use Rattle.dta_model.specs.declared.plan.Plan.{Plan}
use Rattle.dta_model.specs.NodeMoves.{admission, admit, entered, first_move, head_move, is_first, leave_move, left, may_enter, may_move, may_turn, turn_test, turned, waits_for, where_true}
use Rattle.dta_model.specs.Plans.{departure_of, first_link, has_pass, link_allowance, link_at, route_of, turn, turn_rates, vehicle_count}
use Rattle.dta_model.specs.Allowance.{allowance}
use Rattle.net_core.specs.Rates.{rate_in}
use Rattle.net_core.specs.declared.rates.Rates.{Rates}
use Rattle.std.specs.Option.{is_none}
use Rattle.dta_model.specs.Room.{has_room, room}
use Rattle.dta_model.proofs.Steady.{IsSteady}
use Rattle.dta_model.specs.Trace.{Arrived, Move, Onto, Target, has_moved, is_of, last_move, leads_to, moves_made, next_target, queue_of, target_at}
use Rattle.net_core.specs.declared.rows.Turn.{Turn}
use Rattle.dta_model.proofs.Queues.{absent, without-absent, queue-push}
use Rattle.dta_model.proofs.Pushes.{last_move-own, last_move-other, has_moved-append}
use Rattle.dta_model.proofs.Fuel.{not_ready}

count_more : {X : Type 0} (p : X → Bool) (xs ys : List X) → count_by p xs ≤ count_by p (xs ++ ys)
count_more p xs ys = omega (arith, sum_by-append (λ x. cond (p x) 1 0) xs ys)

lt_back : (a b c : ℕ) → a ≤ b → nat_lt b c ≡ true → nat_lt a c ≡ true
lt_back a b c h e = grind (arith, nat_tests)

room_back : (r : Option ℕ) (a b : ℕ) → a ≤ b → has_room r b ≡ true → has_room r a ≡ true
room_back None a b h e = refl
room_back (Some k) a b h e = lt_back a b k h e

pass_back : (p : Plan) (rates : Rates) (t a b : ℕ) → a ≤ b → has_pass p rates t b ≡ true → has_pass p rates t a ≡ true
pass_back p rates t a b h e = either_back (is_none (rate_in rates t)) (nat_lt b (allowance rates p.delta t)) (nat_lt a (allowance rates p.delta t)) (lt_back a b (allowance rates p.delta t) h) e
  where
    either_back : (x y z : Bool) → (y ≡ true → z ≡ true) → (x || y) ≡ true → (x || z) ≡ true
    either_back true y z w g = refl
    either_back false y z w g = w g

module _ (p : Plan) (n t : ℕ) (T0 : List Move) (M N : List Move) where
  may_enter-back : (b : ℕ) → may_enter p n t T0 (M ++ N) b ≡ true → may_enter p n t T0 M b ≡ true
  unfolding may_enter entered
  may_enter-back b h =
      enter_step (nat_lt (count_by (leads_to b) (M ++ N)) (link_allowance p b t)) (has_room (room p b t T0) (count_by (leads_to b) (M ++ N))) (nat_lt (count_by (leads_to b) M) (link_allowance p b t)) (has_room (room p b t T0) (count_by (leads_to b) M)) h
      (lt_back (count_by (leads_to b) M) (count_by (leads_to b) (M ++ N)) (link_allowance p b t) (count_more (leads_to b) M N))
      (room_back (room p b t T0) (count_by (leads_to b) M) (count_by (leads_to b) (M ++ N)) (count_more (leads_to b) M N))
    where
      enter_step : (a b c d : Bool) → (a && b) ≡ true → (a ≡ true → c ≡ true) → (b ≡ true → d ≡ true) → (c && d) ≡ true
      enter_step true true c d h f g = rw (f refl, g refl) refl
      enter_step true false c d h f g = cc
      enter_step false b c d h f g = cc

  left-more : (l : ℕ) → left p n t T0 M l ≤ left p n t T0 (M ++ N) l
  unfolding left
  left-more l = count_more _ M N

  turned-more : (l b : ℕ) → turned p n t T0 M l b ≤ turned p n t T0 (M ++ N) l b
  unfolding turned
  turned-more l b = count_more _ M N

  may_turn-back : (ready l b : ℕ) → may_turn p n t T0 (M ++ N) ready l b ≡ true → may_turn p n t T0 M ready l b ≡ true
  unfolding may_turn
  may_turn-back ready l b h = turn_step (turn p l b) h
    where
      three : (a x y c d : Bool) → (a && x && y) ≡ true → (x ≡ true → c ≡ true) → (y ≡ true → d ≡ true) → (a && c && d) ≡ true
      three true true true c d h f g = rw (f refl, g refl) refl
      three true true false c d h f g = cc
      three true false y c d h f g = cc
      three false x y c d h f g = cc

      turn_step : (o : Option Turn) → turn_test p n t T0 (M ++ N) ready l b o ≡ true → turn_test p n t T0 M ready l b o ≡ true
      turn_step None e = e
      turn_step (Some w) e = three (nat_le (ready + w.penalty) t) (has_pass p (turn_rates p l b) t (turned p n t T0 (M ++ N) l b)) (may_enter p n t T0 (M ++ N) b) (has_pass p (turn_rates p l b) t (turned p n t T0 M l b)) (may_enter p n t T0 M b) e
          (pass_back p (turn_rates p l b) t (turned p n t T0 M l b) (turned p n t T0 (M ++ N) l b) (turned-more l b)) (may_enter-back b)

  may_move-back : (l ready : ℕ) (x : Target) → may_move p n t T0 (M ++ N) l ready x ≡ true → may_move p n t T0 M l ready x ≡ true
  unfolding may_move
  may_move-back l ready Arrived h = let more : left p n t T0 M l ≤ left p n t T0 (M ++ N) l = left-more l in grind (arith, nat_tests)
  may_move-back l ready (Onto b) h = let more : left p n t T0 M l ≤ left p n t T0 (M ++ N) l = left-more l in grind (arith, nat_tests, may_turn-back ready l b)

where_none : (b c : Bool) (y : Move) → (c ≡ true → b ≡ true) → where_true b y ≡ None → where_true c y ≡ None
where_none true c y w h = cc
where_none false true y w h = cc (w refl)
where_none false false y w h = refl

head_absent : (b c : Bool) → not (b || c) ≡ true → b ≡ false
head_absent true c h = cc
head_absent false c h = refl

moves_made-other : (T : List Move) (m : Move) (v : ℕ) → (m.vehicle ≡ v → ⊥) → moves_made v (T ++ m ∷ []) ≡ moves_made v T
unfolding moves_made
moves_made-other T m v n = let e : eqb m.vehicle v ≡ false = ne_eqb m.vehicle v n in sum_by-append (λ x. cond (is_of v x) 1 0) T (m ∷ []) ∙ rw e (omega arith)

pub next_target-other : (p : Plan) (T : List Move) (m : Move) (v : ℕ) → (m.vehicle ≡ v → ⊥) → next_target p (T ++ m ∷ []) v ≡ next_target p T v
unfolding next_target
next_target-other p T m v ne = ap (λ k. target_at (slice_get (route_of p v) k)) (moves_made-other T m v ne)

find_none : (f g : ℕ → Bool) → ((v : ℕ) → g v ≡ true → f v ≡ true) → (xs : List ℕ) → find f xs ≡ None → find g xs ≡ None
find_none f g w [] h = refl
find_none f g w (x ∷ xs) h = none_step (f x) (g x) (w x) h (find_none f g w xs)
  where
    none_step : (b c : Bool) → (c ≡ true → b ≡ true) → cond b (Some x) (find f xs) ≡ None → (find f xs ≡ None → find g xs ≡ None) → cond c (Some x) (find g xs) ≡ None
    none_step true c w e ih = cc
    none_step false true w e ih = cc (w refl)
    none_step false false w e ih = ih e

module _ (p : Plan) (sound : IsSteady p) (n t : ℕ) (T0 : List Move) (M : List Move) (m : Move) where
  none_leave : (l v : ℕ) (e : Option Move) (x : Target) → leave_move p n t T0 M l v e x ≡ None → leave_move p n t T0 (M ++ m ∷ []) l v e x ≡ None
  unfolding leave_move
  none_leave l v None x h = refl
  none_leave l v (Some e) x h = where_none _ _ _ (may_move-back p n t T0 M (m ∷ []) l (e.step + (link_at p l).free) x) h

  late : (l v : ℕ) (x : Target) → m.step ≡ t → leave_move p n t T0 (M ++ m ∷ []) l v (Some m) x ≡ None
  unfolding leave_move
  late l v x now = let free = sound.free l in rw (not_ready p sound n t T0 (M ++ m ∷ []) l (m.step + (link_at p l).free) x (omega (arith, now, free))) refl

  blocked_step : (l : ℕ) (Q : List ℕ) (b : Bool) → m.step ≡ t → absent m.vehicle Q ≡ true → first_move p n t T0 M l (slice_get Q 0) ≡ None → first_move p n t T0 (M ++ m ∷ []) l (slice_get (Q ++ cond b (m.vehicle ∷ []) []) 0) ≡ None
  unfolding first_move
  blocked_step l [] false now a h = refl
  blocked_step l [] true now a h =
      ap (λ e. leave_move p n t T0 (M ++ m ∷ []) l m.vehicle e (next_target p (T0 ++ (M ++ m ∷ [])) m.vehicle)) (ap (λ L. last_move m.vehicle L) (sym (append_assoc T0 M (m ∷ []))) ∙ last_move-own (T0 ++ M) m)
      ∙ late l m.vehicle (next_target p (T0 ++ (M ++ m ∷ [])) m.vehicle) now
  blocked_step l (v ∷ rest) b now a h =
      let ne : m.vehicle ≡ v → ⊥ = λ e. eqb-false v m.vehicle (head_absent (eqb v m.vehicle) _ a) (sym e) in
      let grouped = sym (append_assoc T0 M (m ∷ [])) in
      ap (λ e. leave_move p n t T0 (M ++ m ∷ []) l v e (next_target p (T0 ++ (M ++ m ∷ [])) v)) (ap (λ L. last_move v L) grouped ∙ last_move-other (T0 ++ M) m v ne)
      ∙ ap (λ x. leave_move p n t T0 (M ++ m ∷ []) l v (last_move v (T0 ++ M)) x) (ap (λ L. next_target p L v) grouped ∙ next_target-other p (T0 ++ M) m v ne)
      ∙ none_leave l v (last_move v (T0 ++ M)) (next_target p (T0 ++ M) v) h

  -- what blocks the head of a link blocks it after a move of another vehicle than those on it
  pub stays-blocked : (l : ℕ) → m.step ≡ t → absent m.vehicle (queue_of l (T0 ++ M)) ≡ true → head_move p n t T0 M l ≡ None → head_move p n t T0 (M ++ m ∷ []) l ≡ None
  unfolding head_move
  stays-blocked l now a none =
      let Q = queue_of l (T0 ++ M) in
      let grows : queue_of l (T0 ++ (M ++ m ∷ [])) ≡ queue_of l (T0 ++ M) ++ cond (leads_to l m) (m.vehicle ∷ []) [] =
      ap (λ L. queue_of l L) (sym (append_assoc T0 M (m ∷ []))) ∙ queue-push l (T0 ++ M) m ∙ ap (λ K. K ++ cond (leads_to l m) (m.vehicle ∷ []) []) (without-absent m.vehicle (queue_of l (T0 ++ M)) a) in
      ap (λ K. first_move p n t T0 (M ++ m ∷ []) l (slice_get K 0)) grows ∙ blocked_step l (queue_of l (T0 ++ M)) (leads_to l m) now a none

  waits-back : (b v : ℕ) → waits_for p n t T0 (M ++ m ∷ []) b v ≡ true → waits_for p n t T0 M b v ≡ true
  unfolding waits_for
  waits-back b v h =
      wait_step (is_first b (first_link p v)) (nat_le (departure_of p v) t) (has_moved v (T0 ++ M)) (has_moved v (m ∷ [])) (has_moved v (T0 ++ (M ++ m ∷ []))) (ap (λ L. has_moved v L) (sym (append_assoc T0 M (m ∷ []))) ∙ has_moved-append v (T0 ++ M) (m ∷ [])) h
    where
      wait_step : (a d x y z : Bool) → z ≡ (x || y) → (a && d && not z) ≡ true → (a && d && not x) ≡ true
      wait_step a d true y z e h = let g : (a && d && not z) ≡ (a && d && false) = ap (λ k. a && d && not k) e in sym g ∙ h
      wait_step true true false y z e h = refl
      wait_step true false false y z e h = cc
      wait_step false d false y z e h = cc

  admit-none : (b : ℕ) (o o' : Option ℕ) → admit p n t T0 M b o ≡ None → (o ≡ None → o' ≡ None) → admit p n t T0 (M ++ m ∷ []) b o' ≡ None
  unfolding admit
  admit-none b None o' h w = ap (λ k. admit p n t T0 (M ++ m ∷ []) b k) (w refl)
  admit-none b (Some v) None h w = refl
  admit-none b (Some v) (Some u) h w = only (may_enter p n t T0 M b) (may_enter p n t T0 (M ++ m ∷ []) b) (may_enter-back p n t T0 M (m ∷ []) b) h
    where
      only : (x y : Bool) → (y ≡ true → x ≡ true) → where_true x (record { step = t; vehicle = v; target = Onto b }) ≡ None → where_true y (record { step = t; vehicle = u; target = Onto b }) ≡ None
      only true y w e = cc
      only false true w e = cc (w refl)
      only false false w e = refl

  -- a link that admits nobody admits nobody after another move
  pub admits-none : (b : ℕ) → admission p n t T0 M b ≡ None → admission p n t T0 (M ++ m ∷ []) b ≡ None
  unfolding admission
  admits-none b h =
      admit-none b (find (waits_for p n t T0 M b) (numbers_below (vehicle_count p))) (find (waits_for p n t T0 (M ++ m ∷ []) b) (numbers_below (vehicle_count p))) h
      (find_none (waits_for p n t T0 M b) (waits_for p n t T0 (M ++ m ∷ []) b) (waits-back b) (numbers_below (vehicle_count p)))
