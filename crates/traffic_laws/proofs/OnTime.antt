-- Where nothing binds nobody is late: who is ready moves on in that step.
use Rattle.std.specs.List.{flat_map, last_or, range_with_len}
use Rattle.std.specs.Prelude.{All, IsSome, count_by, filter, find, is_none, nat_eq, nat_lt}
use Rattle.std.specs.Prelude.{slice_get, ⊤, ◌≢◌}
use Rattle.std.proofs.Common.{◌≡◌, ◌⊎◌, inl, inr, ℕ, zero, suc, ◌+◌, ◌%◌, ◌<◌, ◌≤◌, Bool, true}
use Rattle.std.proofs.Common.{false, cond, ◌&&◌, ◌||◌, List, [], ◌∷◌, ◌++◌, length, map}
use Rattle.std.proofs.Common.{refl, ap, sym, ◌∙◌, subst, arith, get_or, Option, Some, None}
use Rattle.std.proofs.Common.{append-nil, append_assoc}
use Rattle.std.proofs.lemmas.Bool.{cases_Bool, cases_lt, eq-eqb, or_parts}
use Rattle.std.proofs.lemmas.Bool.Decides.{eqb_tells}
use Rattle.std.proofs.lemmas.List.Elements.{All-append, All-head, All-nil, All-tail}
use Rattle.std.proofs.lemmas.List.Sums.{sum_by-append}
use Rattle.std.proofs.lemmas.Option.{same_Some, slice_get-get_or, slice_get_within}
use Rattle.std.proofs.Math.Dec.{eqb}
use Rattle.net_core.proofs.Orders.{is_le, is_lt, lt_holds}
use Rattle.net_core.specs.Network as network
use Rattle.net_core.specs.Network.{numbers_below}
use Rattle.net_core.specs.Rates.{rate_in}
use Rattle.net_core.specs.declared.rows.LinkNo.{LinkNo}
use Rattle.net_core.specs.declared.rows.Turn.{Turn}
use Rattle.dta_model.specs.Allowance.{allowance}
use Rattle.dta_model.specs.LinkTimes.{penalty_to}
use Rattle.dta_model.specs.Loading.{after_step, trace_after}
use Rattle.dta_model.specs.NodeMoves.{admission, admit, entered, first_move, first_of}
use Rattle.dta_model.specs.NodeMoves.{head_move, in_order, leave_move, left, may_enter}
use Rattle.dta_model.specs.NodeMoves.{may_move, may_turn, next_move, node_moves, turn_test, turned}
use Rattle.dta_model.specs.NodeMoves.{waits_for, where_true}
use Rattle.dta_model.specs.Plans.{all_nodes, departure_of, first_link, has_pass, link_allowance}
use Rattle.dta_model.specs.Plans.{link_at, route_in, route_of, turn, turn_rates}
use Rattle.dta_model.specs.Plans.{vehicle_count, vehicles_of}
use Rattle.dta_model.specs.Room.{room, room_by}
use Rattle.dta_model.specs.Sound.{IsSound}
use Rattle.dta_model.specs.TimedWalks.{penalty_steps}
use Rattle.dta_model.specs.Trace.{Move, Onto, has_moved, is_link, is_of, last_move}
use Rattle.dta_model.specs.Trace.{last_moves, leads_to, moves_made, moves_of, next_target, queue_of}
use Rattle.dta_model.specs.Trace.{stands_on, target_at}
use Rattle.dta_model.specs.declared.plan.Plan.{Plan}
use Rattle.dta_model.proofs.Fuel.{All-flat, last_in, no_move_is_left}
use Rattle.dta_model.proofs.Journeys.{routes_are_followed, steps_below, steps_rise}
use Rattle.dta_model.proofs.NoMoves.{no-moves}
use Rattle.dta_model.proofs.Onward.{onto_one}
use Rattle.dta_model.proofs.Pushes.{has_moved-append, last_move-still, moves_made_is}
use Rattle.dta_model.proofs.Pushes.{moves_of-append}
use Rattle.dta_model.proofs.Riders.{last_move_is}
use Rattle.dta_model.proofs.Standing.{in-queue}
use Rattle.dta_model.proofs.Steady.{all_at, some_trip, steady_of}
use Rattle.dta_model.proofs.Totals.{all_last, target_place}
use Rattle.traffic_laws.proofs.Holding.{all_rotated, among, either_none, found_all, none_first}
use Rattle.traffic_laws.proofs.Holding.{none_found}
use Rattle.traffic_laws.proofs.Journeying.{node_now}
use Rattle.traffic_laws.specs.FreeFlow.{NothingBinds, moves_in, turns_in}

above : (a b : ℕ) → a ≢ b → a ≤ b → a + 1 ≤ b
above a b n l = grind arith

-- ---- the moves of a node are among those of the step
count_in : (q : Move → Bool) (f : ℕ → List Move) (count from n : ℕ) → from ≤ n → n < from + count
    → count_by q (f n) ≤ count_by q (flat_map f (range_with_len from count))
count_in q f zero from n low high = absurd (omega (arith, low, high))
count_in q f (suc count) from n low high =
    by (eqb_tells from n) (count_in q f count (from + 1) n)
  where
    rest : List Move
    rest = flat_map f (range_with_len (from + 1) count)

    more : count_by q (f from ++ flat_map f (range_with_len (from + 1) count))
        ≡ count_by q (f from) + count_by q (flat_map f (range_with_len (from + 1) count))
    more = sum_by-append (λ x. cond (q x) 1 0) (f from)
        (flat_map f (range_with_len (from + 1) count))

    by : ((eqb from n ≡ true) × (from ≡ n)) ⊎ ((eqb from n ≡ false) × (from ≢ n))
        → (from + 1 ≤ n → n < from + 1 + count
        → count_by q (f n) ≤ count_by q (flat_map f (range_with_len (from + 1) count)))
        → count_by q (f n)
        ≤ count_by q (f from ++ flat_map f (range_with_len (from + 1) count))
    by (inl (t, same)) ih =
        let m = more in
        let e = ap (λ k. count_by q (f k)) same in
        omega (arith, m, e)
    by (inr (t, other)) ih =
        let m = more in
        let k = ih (above from n other low) (omega (arith, high)) in
        omega (arith, m, k)

still_in : (v : ℕ) (f : ℕ → List Move) (count from n : ℕ) → from ≤ n → n < from + count
    → has_moved v (flat_map f (range_with_len from count)) ≡ false → has_moved v (f n) ≡ false
still_in v f zero from n low high h = absurd (omega (arith, low, high))
still_in v f (suc count) from n low high h =
    by (eqb_tells from n) (still_in v f count (from + 1) n)
  where
    parts : (has_moved v (f from) ≡ false)
        × (has_moved v (flat_map f (range_with_len (from + 1) count)) ≡ false)
    parts = or_parts (has_moved v (f from))
        (has_moved v (flat_map f (range_with_len (from + 1) count)))
        (sym (has_moved-append v (f from) (flat_map f (range_with_len (from + 1) count))) ∙ h)

    by : ((eqb from n ≡ true) × (from ≡ n)) ⊎ ((eqb from n ≡ false) × (from ≢ n))
        → (from + 1 ≤ n → n < from + 1 + count
        → has_moved v (flat_map f (range_with_len (from + 1) count)) ≡ false
        → has_moved v (f n) ≡ false) → has_moved v (f n) ≡ false
    by (inl (t, same)) ih = ap (λ k. has_moved v (f k)) (sym same) ∙ parts.0
    by (inr (t, other)) ih = ih (above from n other low) (omega (arith, high)) parts.1

-- ---- the head of a queue entered no later than who is behind it
abbrev Rise : List Move → Type 0
Rise [] = ⊤
Rise (a ∷ B) = All (λ b. a.step ≤ b.step) B × Rise B

rise_of : (T A L : List Move)
    → ((A B : List Move) (a : Move) → T ≡ A ++ a ∷ B → All (λ b. a.step ≤ b.step) B)
    → T ≡ A ++ L → Rise L
rise_of T A [] rises e = tt
rise_of T A (a ∷ L) rises e =
    (rises A L a e, rise_of T (A ++ a ∷ []) L rises (e ∙ sym (append_assoc A (a ∷ []) L)))

rise_append : (t : ℕ) (A B : List Move) → Rise A → All (λ m. m.step < t) A
    → All (λ m. m.step ≡ t) B → Rise (A ++ B)
rise_append t [] [] r below now = tt
rise_append t [] (b ∷ B) r below now =
    let here = All-head (λ m. m.step ≡ t) b B now in
    let rest = All-tail (λ m. m.step ≡ t) b B now in (
      λ i d h. same_le b.step (get_or B i d).step here (rest i d h),
      rise_append t [] B tt (All-nil (λ m. m.step < t)) rest,
    )
  where
    same_le : (x y : ℕ) → x ≡ t → y ≡ t → x ≤ y
    same_le x y e f = omega (arith, e, f)
rise_append t (a ∷ A) B r below now =
    let here = All-head (λ m. m.step < t) a A below in (
      All-append (λ b. a.step ≤ b.step) A B r.0
          (λ i d h. less_le a.step (get_or B i d).step here (now i d h)),
      rise_append t A B r.1 (All-tail (λ m. m.step < t) a A below) now,
    )
  where
    less_le : (x y : ℕ) → x < t → y ≡ t → x ≤ y
    less_le x y e f = omega (arith, e, f)

rise_last : (T : List Move) → Rise T → Rise (last_moves T)
unfolding last_moves
rise_last [] r = tt
rise_last (m ∷ T) r = by (has_moved m.vehicle T) (rise_last T r.1)
  where
    by : (b : Bool) → Rise (last_moves T) → Rise (cond b (last_moves T) (m ∷ last_moves T))
    by true ih = ih
    by false ih = (all_last (λ b. m.step ≤ b.step) T r.0, ih)

record HeadOf (q : Move → Bool) (L : List Move) (e : Move) : Type 0 where
  who : ℕ
  first : slice_get (map (λ m. m.vehicle) (filter q L)) 0 ≡ Some who
  early : (x : Move) → find (is_of who) L ≡ Some x → x.step ≤ e.step

head_of : (q : Move → Bool) (L : List Move) (v : ℕ) (e : Move) → Rise L
    → find (is_of v) L ≡ Some e → q e ≡ true → HeadOf q L e
head_of q [] v e r f on = cc
head_of q (x ∷ L) v e r f on =
    by (q x) refl (eqb x.vehicle v) f (head_of q L v e r.1)
  where
    later : (b : Bool) → cond b (Some x) (find (is_of v) L) ≡ Some e → x.step ≤ e.step
    later true f = let same : x ≡ e = cc in
        let s = ap (λ m. m.step) same in omega (arith, s)
    later false f = found_all (λ b. x.step ≤ b.step) (is_of v) L e r.0 f

    first_early : (w : ℕ) (c : Bool) (y : Move) → cond c (Some x) (find (is_of w) L) ≡ Some y
        → x.step ≤ e.step → (find (is_of w) L ≡ Some y → y.step ≤ e.step) → y.step ≤ e.step
    first_early w true y g low ih = let same : x ≡ y = cc in
        let s = ap (λ m. m.step) same in omega (arith, s, low)
    first_early w false y g low ih = ih g

    own_early : (c : Bool) → eqb x.vehicle x.vehicle ≡ c → c ≡ true → (y : Move)
        → cond c (Some x) (find (is_of x.vehicle) L) ≡ Some y → x.step ≤ e.step → y.step ≤ e.step
    own_early true s t y g low = let same : x ≡ y = cc in
        let s = ap (λ m. m.step) same in omega (arith, s, low)
    own_early false s t y g low = cc

    by : (b : Bool) → b ≡ q x → (c : Bool) → cond c (Some x) (find (is_of v) L) ≡ Some e
        → (find (is_of v) L ≡ Some e → q e ≡ true → HeadOf q L e) → HeadOf q (x ∷ L) e
    by true s c f ih = record {
      who = x.vehicle;
      first = rw (← s) refl;
      early = λ y g. own_early (eqb x.vehicle x.vehicle) refl (eq-eqb x.vehicle x.vehicle refl) y g
          (later c f);
    }
    by false s true f ih =
        let same : x ≡ e = cc in
        let clash : false ≡ true = s ∙ ap q same ∙ on in cc
    by false s false f ih =
        let h = ih f on in
        record {
          who = h.who;
          first = rw (← s) h.first;
          early = λ y g. first_early h.who (eqb x.vehicle h.who) y g (later false f) (h.early y);
        }

head_early : (l : ℕ) (U : List Move) (v : ℕ) (e : Move) → Rise U → last_move v U ≡ Some e
    → leads_to l e ≡ true
    → (w : ℕ) × (slice_get (queue_of l U) 0 ≡ Some w)
    × ((x : Move) → last_move w U ≡ Some x → x.step ≤ e.step)
unfolding last_move queue_of
head_early l U v e r f on =
    let h = head_of (leads_to l) (last_moves U) v e (rise_last U r) f on in
    (h.who, h.first, h.early)

-- ---- one step
pub moves_now : (p : Plan) (t : ℕ) → All (λ m. m.step ≡ t) (moves_in p t)
moves_now p t =
    All-flat (λ m. m.step ≡ t) (λ k. node_moves p k t (trace_after p t)) (all_nodes p)
    (λ k. node_now p k t (trace_after p t))

pub record OnTime (p : Plan) (wait : ℕ → ℕ) (t : ℕ) (T : List Move) : Type 0 where
  -- who is on a link hasn't been ready before this step
  pub ready : (v l : ℕ) (e : Move) → last_move v T ≡ Some e → e.target ≡ Onto l
      → t ≤ e.step + (link_at p l).free + wait l
  -- who hasn't moved wasn't to depart before it
  pub waits : (v b : ℕ) → v < vehicle_count p → first_link p v ≡ Some b
      → has_moved v T ≡ false → t ≤ departure_of p v

last_from : (x : Move) (L : List Move) (f : Move) → last_or (Some x) L ≡ Some f
    → (k : ℕ) × (suc k ≡ length (x ∷ L)) × (slice_get (x ∷ L) k ≡ Some f)
last_from x [] f e = (0, refl, e)
last_from x (y ∷ L) f e =
    let r = last_from y L f e in (suc (r.0), ap suc (r.1), r.2)

pub last_get : (L : List Move) (f : Move) → last_or None L ≡ Some f
    → (k : ℕ) × (suc k ≡ length L) × (slice_get L k ≡ Some f)
last_get [] f e = cc
last_get (x ∷ L) f e = last_from x L f e

some_of : (o : Option Turn) → IsSome o → (way : Turn) × (o ≡ Some way)
some_of None h = cc
some_of (Some way) h = (way, refl)

pass_less : (x : Bool) (a b c : ℕ) → b ≤ a → (x || nat_lt a c) ≡ true → (x || nat_lt b c) ≡ true
pass_less true a b c h e = refl
pass_less false a b c h e = let k = lt_holds a c e in is_lt b c (omega (arith, h, k))

-- a route has turns from link to link
route_turns : (p : Plan) → IsSound p → (w k l b : ℕ) → slice_get (route_of p w) k ≡ Some l
    → slice_get (route_of p w) (suc k) ≡ Some b → IsSome (turn p l b)
unfolding route_of
route_turns p sound w k l b e f = by (slice_get p.routes w) refl e f
  where
    by : (o : Option (Option (List LinkNo))) → slice_get p.routes w ≡ o
        → slice_get (route_in o) k ≡ Some l → slice_get (route_in o) (suc k) ≡ Some b
        → IsSome (turn p l b)
    by None r e f = cc
    by (Some None) r e f = cc
    by (Some (Some route)) r e f =
        let inside = slice_get_within p.routes w (Some route) r in
        let each = sound.each in
        let there = slice_get-get_or p.trips w some_trip (omega (arith, inside, each)) in
        (sound.walks w (get_or p.trips w some_trip) route there r).turns k l b e f

in_links : (p : Plan) → IsSound p → (w k l : ℕ) → slice_get (route_of p w) k ≡ Some l
    → l < length p.net.links
in_links p sound w k l e =
    all_at (λ i. i < length p.net.links) (route_of p w) k l ((steady_of p sound).routes w) e

module _ (p : Plan) (sound : IsSound p) (wait : ℕ → ℕ) (binds : NothingBinds p wait) (t : ℕ)
    (early : t < p.horizon) where
  module _ (n : ℕ) (inside : n < length p.net.nodes) where
    abbrev here : List Move
    here = node_moves p n t (trace_after p t)

    no_more : (q : Move → Bool) → count_by q here ≤ count_by q (moves_in p t)
    no_more q =
        count_in q (λ k. node_moves p k t (trace_after p t)) (length p.net.nodes) 0 n (omega arith)
        (omega (arith, inside))

    no_bound : (b : ℕ) → room p b t (trace_after p t) ≡ None
    unfolding room
    no_bound b =
        subst (λ q. room_by p q b t (trace_after p t) ≡ None) (sym binds.points) refl

    lets_in : (b : ℕ) → b < length p.net.links → may_enter p n t (trace_after p t) here b ≡ true
    unfolding may_enter entered
    lets_in b h =
        let less = no_more (leads_to b) in
        let most = binds.entries t b early h in
        let one = is_lt (count_by (leads_to b) here) (link_allowance p b t)
        (omega (arith, less, most)) in
        rw (one, no_bound b) refl

    lets_out : (l : ℕ) → l < length p.net.links
        → nat_lt (left p n t (trace_after p t) here l) (link_allowance p l t) ≡ true
    unfolding left
    lets_out l h =
        let less = no_more (λ m. stands_on l (trace_after p t) m.vehicle) in
        let most = binds.leavings t l early h in
        is_lt (count_by (λ m. stands_on l (trace_after p t) m.vehicle) here) (link_allowance p l t)
        (omega (arith, less, most))

    lets_turn : (a b : ℕ)
        → has_pass p (turn_rates p a b) t (turned p n t (trace_after p t) here a b) ≡ true
    unfolding turned
    lets_turn a b =
        pass_less (is_none (rate_in (turn_rates p a b) t)) (turns_in p t a b)
        (count_by (λ m. leads_to b m && stands_on a (trace_after p t) m.vehicle) here)
        (allowance (turn_rates p a b) p.delta t)
        (no_more (λ m. leads_to b m && stands_on a (trace_after p t) m.vehicle))
        (binds.turns t a b early)

    turns : (ready l b : ℕ) → b < length p.net.links → IsSome (turn p l b)
        → ready + penalty_steps (turn p l b) ≤ t
        → may_turn p n t (trace_after p t) here ready l b ≡ true
    unfolding may_turn
    turns ready l b h some now =
        let way = some_of (turn p l b) some in
        let long : ready + (way.0).penalty ≤ t =
        subst (λ o. ready + penalty_steps o ≤ t) (way.1) now in
        let one = is_le (ready + (way.0).penalty) t long in
        subst (λ o. turn_test p n t (trace_after p t) here ready l b o ≡ true) (sym (way.1))
        (rw (one, lets_turn l b, lets_in b h) refl)

    -- who is ready may go
    goes : (w l : ℕ) (f : Move) → last_move w (trace_after p t) ≡ Some f → f.target ≡ Onto l
        → has_moved w here ≡ false → f.step + (link_at p l).free + wait l ≤ t
        → l < length p.net.links
        → may_move p n t (trace_after p t) here l (f.step + (link_at p l).free)
        (next_target p (trace_after p t ++ here) w) ≡ true
    unfolding next_target may_move
    goes w l f last at still ready h =
        let T = trace_after p t in
        let k = last_get (moves_of w T) f (sym (last_move_is w T) ∙ last) in
        let place : slice_get (route_of p w) (k.0) ≡ Some l =
        target_place (slice_get (route_of p w) (k.0)) l
        (sym (routes_are_followed p t w (k.0) f (k.2)) ∙ at) in
        let own : moves_of w (T ++ here) ≡ moves_of w T =
        moves_of-append w T here ∙ ap (λ L. moves_of w T ++ L) (no-moves w here still)
        ∙ append-nil (moves_of w T) in
        let made : moves_made w (T ++ here) ≡ suc (k.0) =
        moves_made_is w (T ++ here) ∙ ap (λ L. length L) own ∙ sym (k.1) in
        subst (λ i. may_move p n t T here l (f.step + (link_at p l).free)
        (target_at (slice_get (route_of p w) i)) ≡ true) (sym made)
        (by (k.0) place (slice_get (route_of p w) (suc (k.0))) refl)
      where
        by : (k : ℕ) → slice_get (route_of p w) k ≡ Some l → (o : Option ℕ)
            → slice_get (route_of p w) (suc k) ≡ o
            → may_move p n t (trace_after p t) here l (f.step + (link_at p l).free) (target_at o)
            ≡ true
        by k place None e =
            rw (is_le (f.step + (link_at p l).free) t (omega (arith, ready)), lets_out l h) refl
        by k place (Some b) e =
            let same : penalty_steps (turn p l b) ≡ wait l =
            sym (ap (λ o. penalty_to p l (target_at o)) e) ∙ binds.penalties w k l place in
            rw (
              lets_out l h,
              turns (f.step + (link_at p l).free) l b (in_links p sound w (suc k) b e)
                  (route_turns p sound w k l b place e) (omega (arith, ready, same)),
            ) refl

    head_is : (w l : ℕ) (f : Move) → slice_get (queue_of l (trace_after p t ++ here)) 0 ≡ Some w
        → last_move w (trace_after p t ++ here) ≡ Some f
        → may_move p n t (trace_after p t) here l (f.step + (link_at p l).free)
        (next_target p (trace_after p t ++ here) w) ≡ true
        → head_move p n t (trace_after p t) here l ≡ None → ⊥
    unfolding head_move first_move leave_move
    head_is w l f first last may none =
        let m : Move = record {
          step = t;
          vehicle = w;
          target = next_target p (trace_after p t ++ here) w;
        } in
        let some : head_move p n t (trace_after p t) here l ≡ Some m = rw (first, last, may) refl in
        let clash : Some m ≡ None = sym some ∙ none in cc

    none_left : All (λ l. head_move p n t (trace_after p t) here l ≡ None) (network.ins p.net n)
        × All (λ b. admission p n t (trace_after p t) here b ≡ None) (network.outs p.net n)
    unfolding next_move in_order
    none_left =
        let T = trace_after p t in
        let parts = either_none (first_of (head_move p n t T here) (in_order p n t T))
        (first_of (admission p n t T here) (network.outs p.net n))
        (no_move_is_left p sound n t) in (
          all_rotated (λ l. head_move p n t T here l ≡ None) (t % length (network.ins p.net n))
              (network.ins p.net n) (none_first (head_move p n t T here) (in_order p n t T)
              (parts.0)),
          none_first (admission p n t T here) (network.outs p.net n) (parts.1),
        )

    held : (l : ℕ) → l < length p.net.links → (link_at p l).to.0 ≡ n
        → head_move p n t (trace_after p t) here l ≡ None
    unfolding network.ins
    held l h at =
        among (λ l. head_move p n t (trace_after p t) here l ≡ None)
        (λ l. nat_eq (link_at p l).to.0 n) (length p.net.links) 0 l none_left.0
        (eq-eqb (link_at p l).to.0 n at) (omega arith) (omega (arith, h))

    kept : (b : ℕ) → b < length p.net.links → (link_at p b).from.0 ≡ n
        → admission p n t (trace_after p t) here b ≡ None
    unfolding network.outs
    kept b h at =
        among (λ b. admission p n t (trace_after p t) here b ≡ None)
        (λ b. nat_eq (link_at p b).from.0 n) (length p.net.links) 0 b none_left.1
        (eq-eqb (link_at p b).from.0 n at) (omega arith) (omega (arith, h))

    rising : Rise (trace_after p t ++ here)
    rising =
        rise_append t (trace_after p t) here
        (rise_of (trace_after p t) [] (trace_after p t)
        (λ A B a e. (steps_rise p t A B a e).1) refl)
        (steps_below p t) (node_now p n t (trace_after p t))

    -- so nobody who is ready is left on a link that ends here
    nobody_ready : (v l : ℕ) (e : Move) → l < length p.net.links → (link_at p l).to.0 ≡ n
        → last_move v (trace_after p t) ≡ Some e → e.target ≡ Onto l → has_moved v here ≡ false
        → e.step + (link_at p l).free + wait l ≤ t → ⊥
    nobody_ready v l e h at last on still ready =
        let T = trace_after p t in
        let now : last_move v (T ++ here) ≡ Some e = last_move-still v here T still ∙ last in
        let leads : leads_to l e ≡ true = ap (is_link l) on ∙ eq-eqb l l refl in
        let w = head_early l (T ++ here) v e rising now leads in
        let f = in-queue l (T ++ here) 0 (w.0) (w.1) in
        let sooner = w.2 (f.0) (f.1) in
        let due : (f.0).step + (link_at p l).free + wait l ≤ t = omega (arith, sooner, ready) in
        let quiet = waited (w.0) (f.0) (f.1) due (cases_Bool (has_moved (w.0) here)) in
        let before : last_move (w.0) T ≡ Some (f.0) =
        sym (last_move-still (w.0) here T quiet) ∙ f.1 in
        head_is (w.0) l (f.0) (w.1) (f.1)
        (goes (w.0) l (f.0) before (onto_one l (f.0).target (f.2)) quiet due h) (held l h at)
      where
        waited : (u : ℕ) (f : Move) → last_move u (trace_after p t ++ here) ≡ Some f
            → f.step + (link_at p l).free + wait l ≤ t
            → (has_moved u here ≡ true) ⊎ (has_moved u here ≡ false) → has_moved u here ≡ false
        waited u f last due (inr quiet) = quiet
        waited u f last due (inl moved) =
            let x = last_in (λ m. m.step ≡ t) u here (trace_after p t)
            (node_now p n t (trace_after p t)) moved in
            let same : x.0 ≡ f = same_Some (x.0) f (sym (x.1) ∙ last) in
            let step : (x.0).step ≡ f.step = ap (λ m. m.step) same in
            let is = x.2 in
            let free = (steady_of p sound).free l in
            absurd (omega (arith, step, is, free, due))

    -- and nobody who is to depart waits at a link that begins here
    nobody_waits : (v b : ℕ) → b < length p.net.links → (link_at p b).from.0 ≡ n
        → v < vehicle_count p → first_link p v ≡ Some b
        → has_moved v (trace_after p t ++ here) ≡ false → departure_of p v ≤ t → ⊥
    unfolding admission admit waits_for
    nobody_waits v b h at below first still due =
        by (find (waits_for p n t (trace_after p t) here b) (vehicles_of p)) refl (kept b h at)
      where
        waiting : waits_for p n t (trace_after p t) here b v ≡ true
        waiting =
            rw (first, eq-eqb b b refl, is_le (departure_of p v) t due, still) refl

        by : (o : Option ℕ)
            → find (waits_for p n t (trace_after p t) here b) (vehicles_of p) ≡ o
            → admit p n t (trace_after p t) here b o ≡ None → ⊥
        by None e none =
            let no = none_found (waits_for p n t (trace_after p t) here b) (vehicle_count p) 0 v e
            (omega arith) (omega (arith, below)) in
            let clash : true ≡ false = sym waiting ∙ no in cc
        by (Some u) e none =
            let m : Move = record { step = t; vehicle = u; target = Onto b } in
            let some : where_true (may_enter p n t (trace_after p t) here b) m ≡ Some m =
            rw (lets_in b h) refl in
            let clash : Some m ≡ None = sym some ∙ none in cc

  -- ---- after the step
  still_at : (v n : ℕ) → n < length p.net.nodes → has_moved v (moves_in p t) ≡ false
      → has_moved v (node_moves p n t (trace_after p t)) ≡ false
  still_at v n h still =
      still_in v (λ k. node_moves p k t (trace_after p t)) (length p.net.nodes) 0 n (omega arith)
      (omega (arith, h)) still

  next_ready : (v l : ℕ) (e : Move)
      → last_move v (trace_after p t ++ moves_in p t) ≡ Some e → e.target ≡ Onto l
      → suc t ≤ e.step + (link_at p l).free + wait l
  next_ready v l e last on = by (cases_Bool (has_moved v (moves_in p t)))
    where
      by : (has_moved v (moves_in p t) ≡ true) ⊎ (has_moved v (moves_in p t) ≡ false)
          → suc t ≤ e.step + (link_at p l).free + wait l
      by (inl moved) =
          let x = last_in (λ m. m.step ≡ t) v (moves_in p t) (trace_after p t)
          (moves_now p t) moved in
          let same : x.0 ≡ e = same_Some (x.0) e (sym (x.1) ∙ last) in
          let step : (x.0).step ≡ e.step = ap (λ m. m.step) same in
          let is = x.2 in
          let free = (steady_of p sound).free l in
          omega (arith, step, is, free)
      by (inr still) =
          let before : last_move v (trace_after p t) ≡ Some e =
          sym (last_move-still v (moves_in p t) (trace_after p t) still) ∙ last in
          late before (cases_lt t (e.step + (link_at p l).free + wait l))
        where
          late : last_move v (trace_after p t) ≡ Some e
              → (t < e.step + (link_at p l).free + wait l)
              ⊎ (e.step + (link_at p l).free + wait l ≤ t)
              → suc t ≤ e.step + (link_at p l).free + wait l
          late before (inl less) = omega (arith, less)
          late before (inr ready) =
              let k = last_get (moves_of v (trace_after p t)) e
              (sym (last_move_is v (trace_after p t)) ∙ before) in
              let place : slice_get (route_of p v) (k.0) ≡ Some l =
              target_place (slice_get (route_of p v) (k.0)) l
              (sym (routes_are_followed p t v (k.0) e (k.2)) ∙ on) in
              let h = in_links p sound v (k.0) l place in
              let n = ((steady_of p sound).ends l h).1 in
              absurd (nobody_ready (link_at p l).to.0 n v l e h refl before on
              (still_at v (link_at p l).to.0 n still) ready)

  next_waits : (v b : ℕ) → v < vehicle_count p → first_link p v ≡ Some b
      → has_moved v (trace_after p t ++ moves_in p t) ≡ false → suc t ≤ departure_of p v
  unfolding first_link
  next_waits v b below first still = by (cases_lt t (departure_of p v))
    where
      inside : b < length p.net.links
      inside = in_links p sound v 0 b first

      by : (t < departure_of p v) ⊎ (departure_of p v ≤ t) → suc t ≤ departure_of p v
      by (inl less) = omega (arith, less)
      by (inr due) =
          let h = inside in
          let n = ((steady_of p sound).ends b h).0 in
          let parts = or_parts (has_moved v (trace_after p t)) (has_moved v (moves_in p t))
          (sym (has_moved-append v (trace_after p t) (moves_in p t)) ∙ still) in
          let quiet = still_at v (link_at p b).from.0 n parts.1 in
          absurd (nobody_waits (link_at p b).from.0 n v b h refl below first
          (has_moved-append v (trace_after p t) (node_moves p (link_at p b).from.0 t
          (trace_after p t))
          ∙ rw (parts.0, quiet) refl) due)

pub on_time : (p : Plan) → IsSound p → (wait : ℕ → ℕ) → NothingBinds p wait → (t : ℕ)
    → t ≤ p.horizon → OnTime p wait t (trace_after p t)
unfolding trace_after after_step
on_time p sound wait binds zero h = record {
  ready = λ v l e last on. omega arith;
  waits = λ v b below first still. omega arith;
}
on_time p sound wait binds (suc t) h = record {
  ready = next_ready p sound wait binds t (omega (arith, h));
  waits = next_waits p sound wait binds t (omega (arith, h));
}
