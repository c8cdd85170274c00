-- Who may go by the clock and doesn't is held.
use Rattle.std.specs.List.{list_any, range_with_len}
use Rattle.std.specs.Option.{is_none}
use Rattle.std.specs.Prelude.{All, count_by, drop, filter, find, is_some, nat_eq, nat_le, nat_lt}
use Rattle.std.specs.Prelude.{slice_get, take}
use Rattle.std.proofs.Common.{◌≡◌, ℕ, zero, suc, ◌+◌, ◌%◌, ◌<◌, ◌≤◌, length, Bool, true, false}
use Rattle.std.proofs.Common.{cond, ◌&&◌, ◌||◌, not, List, [], ◌∷◌, ◌++◌, refl, ap, ◌∙◌, sym, subst}
use Rattle.std.proofs.Common.{arith, append-nil, Option, Some, None, ◌⊎◌, inl, inr}
use Rattle.std.proofs.lemmas.Bool.{and_from, cases_Bool, eq-eqb, or_parts}
use Rattle.std.proofs.lemmas.Bool.Decides.{eqb_tells, nat_tests}
use Rattle.std.proofs.lemmas.List.{take-append-drop}
use Rattle.std.proofs.lemmas.List.Elements.{All-append, All-cons, All-head, All-nil, All-tail}
use Rattle.std.proofs.lemmas.List.Elements.{All-weaker}
use Rattle.std.proofs.lemmas.Option.{none-some, same_Some, slice_get_within}
use Rattle.net_core.specs.Network as network
use Rattle.net_core.specs.Rates.{rate_in}
use Rattle.net_core.specs.declared.rows.LinkNo.{LinkNo}
use Rattle.net_core.specs.declared.rows.Turn.{Turn}
use Rattle.dta_model.specs.Allowance.{allowance}
use Rattle.dta_model.specs.Leavings.{leaving_moves}
use Rattle.dta_model.specs.LinkTimes.{penalty_to}
use Rattle.dta_model.specs.TimedWalks.{penalty_steps}
use Rattle.dta_model.specs.Loading.{after_step, step_moves, trace_after}
use Rattle.dta_model.specs.NodeMoves.{admission, admit, either, entered, first_of, head_move}
use Rattle.dta_model.specs.NodeMoves.{in_order, is_first, leave_move, left, may_enter, may_move}
use Rattle.dta_model.specs.NodeMoves.{may_turn, next_move, node_moves, rotated, turn_test, turned}
use Rattle.dta_model.specs.NodeMoves.{waits_for, where_true}
use Rattle.dta_model.specs.Plans.{all_nodes, departure_of, first_link, has_pass, ins}
use Rattle.dta_model.specs.Plans.{link_allowance, link_at, outs, route_in, route_of, turn}
use Rattle.dta_model.specs.Plans.{turn_rates, vehicle_count, vehicles_of}
use Rattle.dta_model.specs.Room.{has_room, leavings, room}
use Rattle.dta_model.specs.Sound.{IsSound}
use Rattle.dta_model.specs.Trace.{Arrived, Move, Onto, Target, has_moved, last_move, leads_to}
use Rattle.dta_model.specs.Trace.{moves_made, moves_of, next_target, queue_of, stands_on, target_at}
use Rattle.dta_model.specs.declared.plan.Plan.{Plan}
use Rattle.dta_model.proofs.Fuel.{has_moved-if, last_in, no_move_is_left, one-step}
use Rattle.dta_model.proofs.Left.{leavings-all, steps_are_below}
use Rattle.dta_model.proofs.NoMoves.{no-moves}
use Rattle.dta_model.proofs.Onward.{vehicles_are_conserved}
use Rattle.dta_model.proofs.Places.{first_at, node_by, node_of, to_link}
use Rattle.dta_model.proofs.Pushes.{has_moved-append, has_moved_is, last_move-still, moves_made_is}
use Rattle.dta_model.proofs.Pushes.{moves_of-append}
use Rattle.dta_model.proofs.Standing.{in-queue, no-last}
use Rattle.dta_model.proofs.Steady.{steady_of}
use Rattle.dta_model.proofs.Totals.{place_in}
use Rattle.cell_stages.specs.Stages.{staying}
use Rattle.cell_stages.specs.Transfers.{LeadsOn, line_move}
use Rattle.cell_stages.proofs.Gathering.{filter_like, own-at, queue-append}
use Rattle.cell_stages.proofs.LeadsOn.{routes_lead_on}
use Rattle.cell_stages.proofs.Lines.{heads_of_lines}
use Rattle.traffic_laws.specs.Capacity.{entered_within, left_within, turned_within, made_within}
use Rattle.traffic_laws.specs.Waiting.{HeadsAreHeld, IsDelayed, IsFull, IsHeld, IsReady}
use Rattle.traffic_laws.specs.Waiting.{IsTurnUsedUp, OriginsAreHeld, by_allowance, by_link, by_next}
use Rattle.traffic_laws.specs.Waiting.{by_room, by_turn}
use Rattle.traffic_laws.proofs.Counts.{count-alike, count-filter}
use Rattle.traffic_laws.proofs.WithinRates.{all-now, enters-below, enters-room, entered-most}
use Rattle.traffic_laws.proofs.WithinRates.{entries-at}
use Rattle.traffic_laws.proofs.WithinRates.{leave-next, leave-now, left-most, turned-most}
use Rattle.traffic_laws.proofs.Passed.{made-now}

-- ---- what a list without a first one tells of each of its links
pub either_none : (o other : Option Move) → either o other ≡ None → (o ≡ None) × (other ≡ None)
either_none None other h = (refl, h)
either_none (Some m) other h = cc

pub none_first : (f : ℕ → Option Move) (ls : List ℕ) → first_of f ls ≡ None
    → All (λ l. f l ≡ None) ls
none_first f [] h = All-nil (λ l. f l ≡ None)
none_first f (l ∷ ls) h =
    let both = either_none (f l) (first_of f ls) h in
    All-cons (λ k. f k ≡ None) l ls both.0 (none_first f ls both.1)

split_all : (P : ℕ → Type 0) (xs ys : List ℕ) → All P (xs ++ ys) → All P xs × All P ys
split_all P [] ys all = (All-nil P, all)
split_all P (x ∷ xs) ys all =
    let rest = split_all P xs ys (All-tail P x (xs ++ ys) all) in
    (All-cons P x xs (All-head P x (xs ++ ys) all) rest.0, rest.1)

pub all_rotated : (P : ℕ → Type 0) (k : ℕ) (xs : List ℕ) → All P (rotated k xs) → All P xs
all_rotated P k xs all =
    let both = split_all P (drop k xs) (take k xs) all in
    subst (λ L. All P L) (take-append-drop k xs)
    (All-append P (take k xs) (drop k xs) both.1 both.0)

-- what is true of the numbers that pass a test is true of one of them
pub among : (P : ℕ → Type 0) (q : ℕ → Bool) (k from l : ℕ)
    → All P (filter q (range_with_len from k)) → q l ≡ true → from ≤ l → l < from + k → P l
among P q zero from l all e low high = absurd (omega (arith, low, high))
among P q (suc k) from l all e low high =
    by (q from) refl all (eqb_tells from l) (among P q k (from + 1) l)
  where
    later : List ℕ
    later = filter q (range_with_len (from + 1) k)

    no_true : false ≡ true → ⊥
    no_true f = cc

    by : (b : Bool) → b ≡ q from → All P (cond b (from ∷ later) later)
        → ((nat_eq from l ≡ true) × (from ≡ l)) ⊎ ((nat_eq from l ≡ false) × (from ≡ l → ⊥))
        → (All P later → q l ≡ true → from + 1 ≤ l → l < from + 1 + k → P l) → P l
    by true r every (inl (s, same)) ih = subst P same (All-head P from later every)
    by true r every (inr (s, other)) ih =
        ih (All-tail P from later every) e (omega (arith, low, other)) (omega (arith, high))
    by false r every (inl (s, same)) ih = absurd (no_true (r ∙ ap q same ∙ e))
    by false r every (inr (s, other)) ih =
        ih every e (omega (arith, low, other)) (omega (arith, high))

-- where nobody is found nobody passes
pub none_found : (q : ℕ → Bool) (k from v : ℕ) → find q (range_with_len from k) ≡ None → from ≤ v
    → v < from + k → q v ≡ false
none_found q zero from v h low high = absurd (omega (arith, low, high))
none_found q (suc k) from v h low high =
    by (q from) refl h (eqb_tells from v) (none_found q k (from + 1) v)
  where
    later : Option ℕ
    later = find q (range_with_len (from + 1) k)

    by : (b : Bool) → b ≡ q from → cond b (Some from) later ≡ None
        → ((nat_eq from v ≡ true) × (from ≡ v)) ⊎ ((nat_eq from v ≡ false) × (from ≡ v → ⊥))
        → (later ≡ None → from + 1 ≤ v → v < from + 1 + k → q v ≡ false) → q v ≡ false
    by true r e same ih = cc
    by false r e (inl (s, same)) ih = sym (ap q same) ∙ sym r
    by false r e (inr (s, other)) ih = ih e (omega (arith, low, other)) (omega (arith, high))

first_of_two : (xs ys : List ℕ) (v : ℕ) → slice_get (xs ++ ys) 0 ≡ Some v
    → (slice_get xs 0 ≡ Some v) ⊎ (slice_get ys 0 ≡ Some v)
first_of_two [] ys v h = inr h
first_of_two (x ∷ xs) ys v h = inl h

-- what is true of each is true of who is found
pub found_all : (P : Move → Type 0) (q : Move → Bool) (L : List Move) (m : Move) → All P L
    → find q L ≡ Some m → P m
found_all P q [] m all e = cc
found_all P q (x ∷ L) m all e =
    by (q x) e (found_all P q L m (All-tail P x L all))
  where
    by : (b : Bool) → cond b (Some x) (find q L) ≡ Some m → (find q L ≡ Some m → P m) → P m
    by true e ih = subst P (same_Some x m e) (All-head P x L all)
    by false e ih = ih e

not_made : (b : Bool) (m : Move) → where_true b m ≡ None → b ≡ false
not_made true m h = cc
not_made false m h = refl

and_false : (b c : Bool) → (b && c) ≡ false → (b ≡ false) ⊎ (c ≡ false)
and_false true c h = inr h
and_false false c h = inl refl

used_up : (a b : ℕ) → nat_lt a b ≡ false → a ≤ b → a ≡ b
used_up a b h l = grind (arith, nat_tests)

too_late : (k : ℕ) (t : ℕ) → k ≤ t → nat_le k t ≡ false → ⊥
too_late k t h e = grind (arith, nat_tests)

-- a link that somebody is on is in the table
in-table : (p : Plan) (t : ℕ) → IsSound p → (l i v : ℕ)
    → slice_get (queue_of l (trace_after p t)) i ≡ Some v → l < length p.net.links
in-table p t sound l i v h = (vehicles_are_conserved p t).within sound l i v h

-- ---- a step of a sound loading
module _ (p : Plan) (sound : IsSound p) (t : ℕ) where
  abbrev T : List Move
  T = trace_after p t

  abbrev N : List Move
  N = step_moves p t (trace_after p t) (all_nodes p)

  abbrev M : ℕ → List Move
  M n = node_moves p n t (trace_after p t)

  -- the nodes at which link l ends and begins, and what their moves used of the step
  abbrev end : ℕ → ℕ
  end l = (link_at p l).to.0

  abbrev start : ℕ → ℕ
  start l = (link_at p l).from.0

  abbrev left_at : ℕ → ℕ
  left_at l = left p (end l) t T (M (end l)) l

  abbrev turned_at : ℕ → ℕ → ℕ
  turned_at l b = turned p (end l) t T (M (end l)) l b

  abbrev entered_at : ℕ → ℕ
  entered_at b = entered p (start b) t T (M (start b)) b

  next_trace : trace_after p (suc t) ≡ trace_after p t ++ N
  unfolding trace_after after_step
  next_trace = refl

  -- a vehicle moves at its node alone
  moved_at : (n v : ℕ) → node_of p T v ≡ Some n → n < length p.net.nodes
      → has_moved v N ≡ has_moved v (M n)
  moved_at n v at h =
      has_moved_is v N ∙ ap (λ L. list_any (λ _. true) L) (own-at p t T n v at h)
      ∙ sym (has_moved_is v (M n))

  stands_at : (l i v : ℕ) → slice_get (queue_of l T) i ≡ Some v
      → node_of p T v ≡ Some (end l)
  unfolding node_of
  stands_at l i v e =
      let x = in-queue l T i v e in
      ap (λ o. node_by p o (first_link p v)) (x.1) ∙ to_link p l (x.0).target (x.2)

  -- how many entered, left and turned in it, by the moves of the node
  entries-now : (b : ℕ) → b < length p.net.links
      → entered_within (trace_after p (suc t)) b t (suc t)
      ≡ entered_at b
  entries-now b h =
      ap (λ L. entered_within L b t (suc t)) next_trace
      ∙ made-now (leads_to b) T N t (steps_are_below p t) (all-now p sound t T)
      ∙ entries-at p sound t T b h

  exits-made : (test : Move → Bool) (l : ℕ) → l < length p.net.links
      → made_within test (leavings l [] (trace_after p (suc t))) t (suc t)
      ≡ count_by (λ m. test m && stands_on l T m.vehicle) (M (end l))
  exits-made test l h =
      ap (λ L. made_within test L t (suc t)) (leave-next p sound l h t)
      ∙ made-now test (leavings l [] T) (leaving_moves p t l) t
      (leavings-all (λ m. m.step < t) l T [] (steps_are_below p t)) (leave-now p sound l h t)
      ∙ count-filter test (λ m. stands_on l T m.vehicle) (M (end l))

  exits-now : (l : ℕ) → l < length p.net.links
      → left_within (trace_after p (suc t)) l t (suc t)
      ≡ left_at l
  unfolding left
  exits-now l h = exits-made (λ m. true) l h

  turns-now : (l b rate : ℕ) → l < length p.net.links → rate_in (turn_rates p l b) t ≡ Some rate
      → turned_within (turn_rates p l b) (trace_after p (suc t)) l b t (suc t)
      ≡ turned_at l b
  unfolding turned
  turns-now l b rate h limited =
      let rates = turn_rates p l b in
      let n = (end l) in
      exits-made (λ m. leads_to b m && is_some (rate_in rates m.step)) l h
      ∙ count-alike
      (λ m. (leads_to b m && is_some (rate_in rates m.step)) && stands_on l T m.vehicle)
      (λ m. leads_to b m && stands_on l T m.vehicle) (M n)
      (All-weaker (λ m. m.step ≡ t)
      (λ m. ((leads_to b m && is_some (rate_in rates m.step)) && stands_on l T m.vehicle)
      ≡ (leads_to b m && stands_on l T m.vehicle))
      (λ m now. dropped (leads_to b m) (stands_on l T m.vehicle) (rate_in rates m.step)
      (ap (λ s. rate_in rates s) now ∙ limited)) (M n)
      (one-step p (steady_of p sound) n t T).now)
    where
      dropped : (c d : Bool) (o : Option ℕ) → o ≡ Some rate → ((c && is_some o) && d) ≡ (c && d)
      dropped true d o e = rw e refl
      dropped false d o e = refl

  -- a link that lets nobody more in
  full : (b : ℕ) → b < length p.net.links
      → may_enter p (start b) t T (M (start b)) b ≡ false → IsFull p t b
  unfolding may_enter
  full b h refused = by (and_false _ _ refused)
    where
      by_places : (o : Option ℕ) → room p b t T ≡ o
          → has_room o (entered_at b) ≡ false
          → IsFull p t b
      by_places None e f = cc
      by_places (Some places) e f =
          let n = (start b) in
          let few = entered-most p n t T b places (λ K g. enters-room p n t T K b places e g) in
          let same = used_up (entered p n t T (M n) b) places f few in
          by_room (e ∙ ap (λ k. Some k) (sym same ∙ sym (entries-now b h)))

      by : (nat_lt (entered_at b) (link_allowance p b t) ≡ false)
          ⊎ (has_room (room p b t T) (entered_at b) ≡ false)
          → IsFull p t b
      by (inl e) =
          let n = (start b) in
          let few = entered-most p n t T b (link_allowance p b t)
          (λ K g. enters-below p n t T K b g) in
          by_allowance (entries-now b h ∙ used_up (entered_at b) (link_allowance p b t) e few)
      by (inr e) = by_places (room p b t T) refl e

  -- a link that nobody more may leave
  drained : (l : ℕ) (x : Target) → l < length p.net.links
      → nat_lt (left_at l) (link_allowance p l t) ≡ false
      → IsHeld p t l x
  drained l x h e =
      let n = (end l) in
      let few = left-most p n t T (steady_of p sound) l in
      by_link (exits-now l h ∙ used_up (left p n t T (M n) l) (link_allowance p l t) e few)

  -- a turn that nobody more may take
  turn_used : (l b : ℕ) → l < length p.net.links
      → has_pass p (turn_rates p l b) t (turned_at l b) ≡ false
      → IsTurnUsedUp p t l b
  turn_used l b h e = by (rate_in (turn_rates p l b) t) refl (or_parts _ _ e)
    where
      by : (o : Option ℕ) → rate_in (turn_rates p l b) t ≡ o
          → (is_none (rate_in (turn_rates p l b) t) ≡ false)
          × (nat_lt (turned_at l b) (allowance (turn_rates p l b) p.delta t) ≡ false)
          → IsTurnUsedUp p t l b
      by None r both = absurd (no_limit (sym (ap is_none r) ∙ both.0))
        where
          no_limit : true ≡ false → ⊥
          no_limit f = cc
      by (Some rate) r both =
          let n = (end l) in
          let few = turned-most p n t T (steady_of p sound) l b rate r in
          record {
            limited = ap is_some r;
            used = turns-now l b rate h r
                ∙ used_up (turned_at l b) (allowance (turn_rates p l b) p.delta t) both.1 few;
          }

  -- nobody moves on at a node once its moves are made
  no_heads : (n : ℕ) → first_of (head_move p n t T (M n)) (in_order p n t T) ≡ None
  unfolding next_move
  no_heads n = (either_none _ _ (no_move_is_left p sound n t)).0

  no_admissions : (n : ℕ) → first_of (admission p n t T (M n)) (outs p n) ≡ None
  unfolding next_move
  no_admissions n = (either_none _ _ (no_move_is_left p sound n t)).1

  head-stays : (l : ℕ) → l < length p.net.links
      → head_move p (end l) t T (M (end l)) l ≡ None
  unfolding in_order network.ins
  head-stays l h =
      let n = (end l) in
      let every = none_first (head_move p n t T (M n)) (in_order p n t T) (no_heads n) in
      among (λ k. head_move p n t T (M n) k ≡ None) (λ k. nat_eq (link_at p k).to.0 n)
      (length p.net.links) 0 l
      (all_rotated (λ k. head_move p n t T (M n) k ≡ None) (t % length (ins p n)) (ins p n) every)
      (eq-eqb n n refl) (omega arith) (omega (arith, h))

  none-admitted : (b : ℕ) → b < length p.net.links
      → admission p (start b) t T (M (start b)) b ≡ None
  unfolding network.outs
  none-admitted b h =
      let n = (start b) in
      among (λ k. admission p n t T (M n) k ≡ None) (λ k. nat_eq (link_at p k).from.0 n)
      (length p.net.links) 0 b
      (none_first (admission p n t T (M n)) (outs p n) (no_admissions n))
      (eq-eqb n n refl) (omega arith) (omega (arith, h))

  -- the first vehicle on link l after the step hasn't moved in it
  module _ (l v : ℕ) (r : IsReady p t l v) where
    table : l < length p.net.links
    table = in-table p (suc t) sound l 0 v r.first

    still : has_moved v N ≡ false
    still = by (cases_Bool (has_moved v N))
      where
        by : (has_moved v N ≡ true) ⊎ (has_moved v N ≡ false) → has_moved v N ≡ false
        by (inr e) = e
        by (inl e) =
            let x = last_in (λ m. m.step ≡ t) v N T (all-now p sound t T) e in
            let same : r.entry ≡ x.0 =
            same_Some r.entry (x.0) (sym r.entered ∙ ap (λ L. last_move v L) next_trace ∙ x.1) in
            let late : r.entry.step ≡ t = ap (λ m. m.step) same ∙ x.2 in
            let free = (steady_of p sound).free l in
            let over = r.ready in
            absurd (omega (arith, late, free, over))

    came_before : last_move v T ≡ Some r.entry
    came_before =
        sym (last_move-still v N T still) ∙ ap (λ L. last_move v L) (sym next_trace) ∙ r.entered

    goes : next_target p (trace_after p (suc t)) v ≡ next_target p T v
    unfolding next_target
    goes =
        ap (λ k. target_at (slice_get (route_of p v) k))
        (ap (λ L. moves_made v L) next_trace ∙ moves_made_is v (T ++ N)
        ∙ ap (λ L. length L)
        (moves_of-append v T N ∙ ap (λ L. moves_of v T ++ L) (no-moves v N still)
        ∙ append-nil (moves_of v T))
        ∙ sym (moves_made_is v T))

    -- so it was on the link before, and is the first of those who stay
    first_stays : slice_get (staying N (queue_of l T)) 0 ≡ Some v
    first_stays =
        by (first_of_two (staying N (queue_of l T)) (queue_of l N) v
        (ap (λ Q. slice_get Q 0) (sym (ap (λ L. queue_of l L) next_trace ∙ queue-append l T N))
        ∙ r.first))
      where
        by : (slice_get (staying N (queue_of l T)) 0 ≡ Some v)
            ⊎ (slice_get (queue_of l N) 0 ≡ Some v)
            → slice_get (staying N (queue_of l T)) 0 ≡ Some v
        by (inl e) = e
        by (inr e) =
            let x = in-queue l N 0 v e in
            absurd (not_both (has_moved-if v N (x.0) (x.1)) still)
          where
            not_both : has_moved v N ≡ true → has_moved v N ≡ false → ⊥
            not_both a b = let f : true ≡ false = sym a ∙ b in cc

    stayed : staying N (queue_of l T) ≡ staying (M (end l)) (queue_of l T)
    stayed =
        filter_like (λ w. not (has_moved w N)) (λ w. not (has_moved w (M (end l))))
        (queue_of l T)
        (λ i w e. ap not (moved_at (end l) w (stands_at l i w e)
        ((steady_of p sound).ends l table).1))

    no_move : leave_move p (end l) t T (M (end l)) l v (Some r.entry)
        (next_target p T v) ≡ None
    unfolding line_move
    no_move =
        let n = (end l) in
        ap (λ o. leave_move p n t T (M n) l v o (next_target p T v)) (sym came_before)
        ∙ ap (λ o. line_move p n t T (M n) l o)
        (sym (ap (λ Q. slice_get Q 0) (sym stayed) ∙ first_stays))
        ∙ sym (heads_of_lines p sound n t T (M n) (one-step p (steady_of p sound) n t T).now l)
        ∙ head-stays l table

    may_not : may_move p (end l) t T (M (end l)) l
        (r.entry.step + (link_at p l).free) (next_target p T v) ≡ false
    unfolding leave_move
    may_not =
        not_made _ (record { step = t; vehicle = v; target = next_target p T v }) no_move

    held_by : (x : Target) → next_target p T v ≡ x
        → r.entry.step + (link_at p l).free + penalty_to p l x ≤ t
        → may_move p (end l) t T (M (end l)) l
        (r.entry.step + (link_at p l).free) x ≡ false
        → IsHeld p t l x
    unfolding may_move may_turn
    held_by Arrived e over refused = by (and_false _ _ refused)
      where
        by : (nat_le (r.entry.step + (link_at p l).free) t ≡ false)
            ⊎ (nat_lt (left_at l) (link_allowance p l t) ≡ false)
            → IsHeld p t l Arrived
        by (inl late) =
            absurd (too_late (r.entry.step + (link_at p l).free) t (omega (arith, over)) late)
        by (inr f) = drained l Arrived table f
    held_by (Onto b) e over refused = by (and_false _ _ refused)
      where
        on : LeadsOn p l b
        on = routes_lead_on p sound (suc t) l 0 v b r.first (goes ∙ e)

        by_way : (o : Option Turn) → turn p l b ≡ o
            → turn_test p (end l) t T (M (end l))
            (r.entry.step + (link_at p l).free) l b o ≡ false
            → IsHeld p t l (Onto b)
        by_way None w f = absurd (no_way (sym (ap is_some w) ∙ on.turn))
          where
            no_way : false ≡ true → ⊥
            no_way g = cc
        by_way (Some way) w f = by_both (and_false _ _ f)
          where
            by_first : (nat_le (r.entry.step + (link_at p l).free + way.penalty) t ≡ false)
                ⊎ (has_pass p (turn_rates p l b) t
                (turned_at l b) ≡ false)
                → IsHeld p t l (Onto b)
            by_first (inl late) =
                absurd (too_late (r.entry.step + (link_at p l).free + way.penalty) t
                (subst (λ o. r.entry.step + (link_at p l).free + penalty_steps o ≤ t) w over) late)
            by_first (inr g) = by_turn b refl (turn_used l b table g)

            by_both : ((nat_le (r.entry.step + (link_at p l).free + way.penalty) t
                && has_pass p (turn_rates p l b) t
                (turned_at l b)) ≡ false)
                ⊎ (may_enter p (end l) t T (M (end l)) b ≡ false)
                → IsHeld p t l (Onto b)
            by_both (inl g) = by_first (and_false _ _ g)
            by_both (inr g) =
                by_next b refl (full b on.there
                (subst (λ n. may_enter p n t T (M n) b ≡ false) (sym on.joins) g))

        by : (nat_lt (left_at l) (link_allowance p l t) ≡ false)
            ⊎ (turn_test p (end l) t T (M (end l))
            (r.entry.step + (link_at p l).free) l b (turn p l b) ≡ false)
            → IsHeld p t l (Onto b)
        by (inl f) = drained l (Onto b) table f
        by (inr f) = by_way (turn p l b) refl f

    pub held : IsHeld p t l (next_target p (trace_after p (suc t)) v)
    held =
        subst (λ x. IsHeld p t l x) (sym goes)
        (held_by (next_target p T v) refl
        (subst (λ x. r.entry.step + (link_at p l).free + penalty_to p l x ≤ t) goes r.ready)
        may_not)

  -- who waits at an origin
  module _ (v b : ℕ) (d : IsDelayed p t v b) where
    begins : b < length p.net.links
    unfolding first_link
    begins =
        place_in (λ l. l < length p.net.links) (route_of p v) 0 b
        ((steady_of p sound).routes v) d.first

    among_all : v < vehicle_count p
    unfolding first_link route_of
    among_all = by (slice_get p.routes v) refl d.first
      where
        by : (o : Option (Option (List LinkNo))) → slice_get p.routes v ≡ o
            → slice_get (route_in o) 0 ≡ Some b → v < vehicle_count p
        by None e f = absurd (none-some b f)
        by (Some route) e f =
            let within = slice_get_within p.routes v route e in
            let each = sound.each in
            omega (arith, within, each)

    unmoved : (has_moved v T ≡ false) × (has_moved v N ≡ false)
    unmoved =
        or_parts (has_moved v T) (has_moved v N)
        (sym (has_moved-append v T N) ∙ ap (λ L. has_moved v L) (sym next_trace) ∙ d.waits)

    begins_at : is_first b (first_link p v) ≡ true
    begins_at = ap (is_first b) d.first ∙ eq-eqb b b refl

    unmoved_here : has_moved v (M (start b)) ≡ false
    unmoved_here =
        let n = (start b) in
        sym (moved_at n v (first_at p n t T v b begins_at (no-last v T unmoved.0))
        ((steady_of p sound).ends b begins).0) ∙ unmoved.1

    waits_here : waits_for p (start b) t T (M (start b)) b v ≡ true
    unfolding waits_for
    waits_here =
        let n = (start b) in
        let none : has_moved v (T ++ M n) ≡ false =
        has_moved-append v T (M n)
        ∙ both_false (has_moved v T) (has_moved v (M n)) unmoved.0 unmoved_here in
        and_from _ _ (and_from _ _ begins_at (due_now (departure_of p v) d.due)) (ap not none)
      where
        both_false : (x y : Bool) → x ≡ false → y ≡ false → (x || y) ≡ false
        both_false true y e f = e
        both_false false y e f = f

        due_now : (k : ℕ) → k ≤ t → nat_le k t ≡ true
        due_now k h = grind (arith, nat_tests)

    pub delayed : IsFull p t b
    unfolding admission admit
    delayed =
        let n = (start b) in
        by (find (waits_for p n t T (M n) b) (vehicles_of p)) refl (none-admitted b begins)
      where
        by : (o : Option ℕ)
            → find (waits_for p (start b) t T (M (start b)) b) (vehicles_of p) ≡ o
            → admit p (start b) t T (M (start b)) b o ≡ None → IsFull p t b
        by None e f =
            absurd (not_both waits_here
            (none_found (waits_for p (start b) t T (M (start b)) b)
            (vehicle_count p) 0 v e (omega arith) (among_below v (vehicle_count p) among_all)))
          where
            among_below : (a c : ℕ) → a < c → a < 0 + c
            among_below a c h = omega (arith, h)

            not_both : waits_for p (start b) t T (M (start b)) b v ≡ true
                → waits_for p (start b) t T (M (start b)) b v ≡ false → ⊥
            not_both x y = let g : true ≡ false = sym x ∙ y in cc
        by (Some u) e f =
            full b begins (not_made _ (record { step = t; vehicle = u; target = Onto b }) f)

pub heads_are_held : HeadsAreHeld
heads_are_held p sound t l v r = held p sound t l v r

pub origins_are_held : OriginsAreHeld
origins_are_held p sound t v b d = delayed p sound t v b d
