-- The moves of a step stay within the allowances of the step.
use Rattle.std.specs.Option.{is_none}
use Rattle.std.specs.Prelude.{count_by, filter, All, is_some, nat_eq, nat_lt}
use Rattle.std.proofs.Common.{◌≡◌, ℕ, suc, ◌+◌, ◌<◌, ◌≤◌, length, Bool, true, false, ◌&&◌, ◌||◌}
use Rattle.std.proofs.Common.{List, [], ◌∷◌, ◌++◌, refl, ap, ◌∙◌, sym, subst, arith, Option, Some}
use Rattle.std.proofs.Common.{None, ◌⊎◌, inl, inr}
use Rattle.std.proofs.lemmas.Bool.{and_parts, cases_Bool, eqb-true, false_from_ne_true, not-true}
use Rattle.std.proofs.lemmas.Bool.{or_parts}
use Rattle.std.proofs.lemmas.Bool.Decides.{nat_tests}
use Rattle.std.proofs.lemmas.Option.{same_Some}
use Rattle.std.proofs.lemmas.List.Sums.{length-filter}
use Rattle.std.proofs.lemmas.List.Elements.{All-filter, All-nil, All-push, All-weaker}
use Rattle.net_core.specs.Rates.{rate_in}
use Rattle.net_core.specs.declared.rates.Rates.{Rates}
use Rattle.net_core.specs.declared.rows.Turn.{Turn}
use Rattle.dta_model.specs.Allowance.{allowance}
use Rattle.dta_model.specs.Leavings.{leaving_moves}
use Rattle.dta_model.specs.Loading.{after_step, step_moves, trace_after}
use Rattle.dta_model.specs.NodeMoves.{entered, left, may_enter, may_move, may_turn, next_move}
use Rattle.dta_model.specs.NodeMoves.{node_moves, turn_test, turned, waits_for}
use Rattle.dta_model.specs.Plans.{all_nodes, has_pass, link_allowance, link_at, link_rates, turn}
use Rattle.dta_model.specs.Plans.{turn_rates}
use Rattle.dta_model.specs.Room.{has_room, leavings, room}
use Rattle.dta_model.specs.Sound.{IsSound}
use Rattle.dta_model.specs.Trace.{Arrived, Move, Onto, Target, has_moved, is_link, last_move}
use Rattle.dta_model.specs.Trace.{leads_there, leads_to, stands_on}
use Rattle.dta_model.specs.declared.plan.Plan.{Plan}
use Rattle.dta_model.proofs.Conserved.{one_link}
use Rattle.dta_model.proofs.Flat.{filter-flat, flat_one}
use Rattle.dta_model.proofs.Fuel.{All-flat, last_in, not_ready, one-step}
use Rattle.dta_model.proofs.Left.{links_are_left_at_their_ends}
use Rattle.dta_model.proofs.NextMoves.{Kind, OfHead, head, moves-keep, next_cases, waiting}
use Rattle.dta_model.proofs.NoMoves.{filter_nothing}
use Rattle.dta_model.proofs.Places.{AtNode, at-node}
use Rattle.dta_model.proofs.Pushes.{has_moved-append, last_move-still}
use Rattle.dta_model.proofs.Standing.{in-queue, no-last}
use Rattle.dta_model.proofs.Steady.{IsSteady, steady_of}
use Rattle.cell_stages.proofs.Passing.{moves_count}
use Rattle.traffic_laws.specs.Capacity.{EntriesAreWithin, LeavingsAreWithin, TurnsAreWithin}
use Rattle.traffic_laws.proofs.Counts.{count-filter, count-less, count-none, in-step, one_if}
use Rattle.traffic_laws.proofs.Passed.{are-within}

below : (a b : ℕ) → nat_lt a b ≡ true → a < b
below a b h = grind (arith, nat_tests)

-- of a node in a step
module _ (p : Plan) (n t : ℕ) (T0 : List Move) where
  none_entered : (b : ℕ) → entered p n t T0 [] b ≡ 0
  unfolding entered
  none_entered b = refl

  none_left : (l : ℕ) → left p n t T0 [] l ≡ 0
  unfolding left
  none_left l = refl

  none_turned : (l b : ℕ) → turned p n t T0 [] l b ≡ 0
  unfolding turned
  none_turned l b = refl

  -- what a move onto link b passed: its turn, and the link
  record PassesTurn (M : List Move) (l b : ℕ) : Type 0 where
    pass : has_pass p (turn_rates p l b) t (turned p n t T0 M l b) ≡ true
    enter : may_enter p n t T0 M b ≡ true

  passes : (M : List Move) (l ready b : ℕ) (x : Target) → is_link b x ≡ true
      → may_move p n t T0 M l ready x ≡ true → PassesTurn M l b
  unfolding may_move may_turn
  passes M l ready b Arrived e h = cc
  passes M l ready b (Onto c) e h =
      let parts = and_parts _ _ h in
      subst (λ k. PassesTurn M l k) (eqb-true c b e) (turn_step (turn p l c) parts.1)
    where
      turn_step : (o : Option Turn) → turn_test p n t T0 M ready l c o ≡ true → PassesTurn M l c
      turn_step None f = cc
      turn_step (Some way) f =
          let first = and_parts _ _ f in
          record { pass = (and_parts _ _ first.0).1; enter = first.1 }

  leaves_below : (M : List Move) (l ready : ℕ) (x : Target) → may_move p n t T0 M l ready x ≡ true
      → left p n t T0 M l < link_allowance p l t
  unfolding may_move
  leaves_below M l ready Arrived h = below _ _ (and_parts _ _ h).1
  leaves_below M l ready (Onto b) h = below _ _ (and_parts _ _ h).0

  -- a move onto a link is one that the link lets in
  lets_in : (M : List Move) (m : Move) (b : ℕ) → Kind p n t T0 M m → leads_to b m ≡ true
      → may_enter p n t T0 M b ≡ true
  lets_in M m b (head l into h) e = (passes M l _ b m.target e h.may).enter
  lets_in M m b (waiting c out h) e =
      subst (λ k. may_enter p n t T0 M k ≡ true)
      (eqb-true c b (subst (λ x. is_link b x ≡ true) h.goes e)) h.may

  pub entered-most : (b most : ℕ)
      → ((M : List Move) → may_enter p n t T0 M b ≡ true → entered p n t T0 M b < most)
      → entered p n t T0 (node_moves p n t T0) b ≤ most
  entered-most b most tells =
      moves-keep p n t T0 (λ M. entered p n t T0 M b ≤ most) step nothing
    where
      nothing : entered p n t T0 [] b ≤ most
      nothing = let none = none_entered b in omega (arith, none)

      step : (M : List Move) (m : Move) → entered p n t T0 M b ≤ most
          → next_move p n t T0 M ≡ Some m → entered p n t T0 (M ++ m ∷ []) b ≤ most
      step M m so_far e =
          let count = (moves_count p n t T0 M m).entered b in
          by (leads_to b m) refl count
        where
          by : (c : Bool) → c ≡ leads_to b m
              → entered p n t T0 (M ++ m ∷ []) b ≡ entered p n t T0 M b + one_if c
              → entered p n t T0 (M ++ m ∷ []) b ≤ most
          by true r count =
              let more = tells M (lets_in M m b (next_cases p n t T0 M m e) (sym r)) in
              omega (arith, count, more)
          by false r count = omega (arith, count, so_far)

  pub enters-below : (M : List Move) (b : ℕ) → may_enter p n t T0 M b ≡ true
      → entered p n t T0 M b < link_allowance p b t
  unfolding may_enter
  enters-below M b h = below _ _ (and_parts _ _ h).0

  pub enters-room : (M : List Move) (b places : ℕ) → room p b t T0 ≡ Some places
      → may_enter p n t T0 M b ≡ true → entered p n t T0 M b < places
  unfolding may_enter
  enters-room M b places e h =
      below _ _ (subst (λ r. has_room r (entered p n t T0 M b) ≡ true) e (and_parts _ _ h).1)

  -- who was on a link at the start of the step leaves it as its head
  module _ (sound : IsSteady p) where
    new_one : (M : List Move) (l : ℕ) (m : Move) → All (λ x. x.step ≡ t) M → OfHead p n t T0 M l m
        → has_moved m.vehicle M ≡ false
    new_one M l m now h = by (cases_Bool (has_moved m.vehicle M))
      where
        by : (has_moved m.vehicle M ≡ true) ⊎ (has_moved m.vehicle M ≡ false)
            → has_moved m.vehicle M ≡ false
        by (inr e) = e
        by (inl e) =
            let x = last_in (λ y. y.step ≡ t) m.vehicle M T0 now e in
            let same : h.entry ≡ x.0 = same_Some h.entry (x.0) (sym h.entered ∙ x.1) in
            let late : h.entry.step ≡ t = ap (λ y. y.step) same ∙ x.2 in
            let free = sound.free l in
            let clash : true ≡ false =
            sym h.may ∙ not_ready p sound n t T0 M l (h.entry.step + (link_at p l).free) m.target
            (omega (arith, late, free)) in
            cc

    leaves_as_head : (M : List Move) (l : ℕ) (m : Move) → All (λ x. x.step ≡ t) M
        → Kind p n t T0 M m → stands_on l T0 m.vehicle ≡ true → OfHead p n t T0 M l m
    unfolding stands_on waits_for
    leaves_as_head M l m now (head k into h) e =
        let still = new_one M k m now h in
        let x = in-queue k (T0 ++ M) 0 m.vehicle h.first in
        let before : last_move m.vehicle T0 ≡ Some x.0 =
        sym (last_move-still m.vehicle M T0 still) ∙ x.1 in
        let here : is_link l (x.0).target ≡ true = subst (λ o. leads_there l o ≡ true) before e in
        subst (λ j. OfHead p n t T0 M j m) (one_link k l (x.0).target x.2 here) h
    leaves_as_head M l m now (waiting b out h) e =
        let still : has_moved m.vehicle (T0 ++ M) ≡ false = not-true _ (and_parts _ _ h.waits).1 in
        let early = (or_parts (has_moved m.vehicle T0) (has_moved m.vehicle M)
        (sym (has_moved-append m.vehicle T0 M) ∙ still)).0 in
        absurd (no_true (subst (λ o. leads_there l o ≡ true) (no-last m.vehicle T0 early) e))
      where
        no_true : false ≡ true → ⊥
        no_true f = cc

    now_step : (M : List Move) (m : Move) → All (λ x. x.step ≡ t) M → Kind p n t T0 M m
        → All (λ x. x.step ≡ t) (M ++ m ∷ [])
    now_step M m all (head l into h) = All-push (λ x. x.step ≡ t) M m all h.now
    now_step M m all (waiting b out h) = All-push (λ x. x.step ≡ t) M m all h.now

    pub left-most : (l : ℕ) → left p n t T0 (node_moves p n t T0) l ≤ link_allowance p l t
    left-most l =
        (moves-keep p n t T0
        (λ M. All (λ x. x.step ≡ t) M × (left p n t T0 M l ≤ link_allowance p l t)) step
        (All-nil (λ x. x.step ≡ t), nothing)).1
      where
        nothing : left p n t T0 [] l ≤ link_allowance p l t
        nothing = let none = none_left l in omega (arith, none)

        step : (M : List Move) (m : Move)
            → All (λ x. x.step ≡ t) M × (left p n t T0 M l ≤ link_allowance p l t)
            → next_move p n t T0 M ≡ Some m
            → All (λ x. x.step ≡ t) (M ++ m ∷ [])
            × (left p n t T0 (M ++ m ∷ []) l ≤ link_allowance p l t)
        step M m so_far e =
            let k = next_cases p n t T0 M m e in (
              now_step M m so_far.0 k,
              by k (stands_on l T0 m.vehicle) refl ((moves_count p n t T0 M m).left l),
            )
          where
            by : Kind p n t T0 M m → (c : Bool) → c ≡ stands_on l T0 m.vehicle
                → left p n t T0 (M ++ m ∷ []) l ≡ left p n t T0 M l + one_if c
                → left p n t T0 (M ++ m ∷ []) l ≤ link_allowance p l t
            by k true r count =
                let h = leaves_as_head M l m so_far.0 k (sym r) in
                let more = leaves_below M l _ m.target h.may in
                omega (arith, count, more)
            by k false r count = let few = so_far.1 in omega (arith, count, few)

    pub turned-most : (l b rate : ℕ) → rate_in (turn_rates p l b) t ≡ Some rate
        → turned p n t T0 (node_moves p n t T0) l b ≤ allowance (turn_rates p l b) p.delta t
    turned-most l b rate limited =
        (moves-keep p n t T0
        (λ M. All (λ x. x.step ≡ t) M
        × (turned p n t T0 M l b ≤ allowance (turn_rates p l b) p.delta t)) step
        (All-nil (λ x. x.step ≡ t), nothing)).1
      where
        nothing : turned p n t T0 [] l b ≤ allowance (turn_rates p l b) p.delta t
        nothing = let none = none_turned l b in omega (arith, none)

        or_right : (c d : Bool) → c ≡ false → (c || d) ≡ true → d ≡ true
        or_right true d e h = cc
        or_right false d e h = h

        step : (M : List Move) (m : Move)
            → All (λ x. x.step ≡ t) M
            × (turned p n t T0 M l b ≤ allowance (turn_rates p l b) p.delta t)
            → next_move p n t T0 M ≡ Some m
            → All (λ x. x.step ≡ t) (M ++ m ∷ [])
            × (turned p n t T0 (M ++ m ∷ []) l b ≤ allowance (turn_rates p l b) p.delta t)
        step M m so_far e =
            let k = next_cases p n t T0 M m e in (
              now_step M m so_far.0 k,
              by k (leads_to b m && stands_on l T0 m.vehicle) refl
                  ((moves_count p n t T0 M m).turned l b),
            )
          where
            by : Kind p n t T0 M m → (c : Bool) → c ≡ (leads_to b m && stands_on l T0 m.vehicle)
                → turned p n t T0 (M ++ m ∷ []) l b ≡ turned p n t T0 M l b + one_if c
                → turned p n t T0 (M ++ m ∷ []) l b ≤ allowance (turn_rates p l b) p.delta t
            by k true r count =
                let both = and_parts (leads_to b m) (stands_on l T0 m.vehicle) (sym r) in
                let h = leaves_as_head M l m so_far.0 k both.1 in
                let pass = (passes M l _ b m.target both.0 h.may).pass in
                let more = below (turned p n t T0 M l b) (allowance (turn_rates p l b) p.delta t)
                (or_right (is_none (rate_in (turn_rates p l b) t)) _ (ap is_none limited) pass) in
                omega (arith, count, more)
            by k false r count = let few = so_far.1 in omega (arith, count, few)

-- the moves of a step
module _ (p : Plan) (sound : IsSound p) (t : ℕ) (T : List Move) where
  pub all-now : All (λ m. m.step ≡ t) (step_moves p t T (all_nodes p))
  all-now = All-flat (λ m. m.step ≡ t) (λ n. node_moves p n t T) (all_nodes p)
      (λ n. (one-step p (steady_of p sound) n t T).now)

  -- those that lead to a link are made at its beginning
  pub come-from : (l : ℕ) → l < length p.net.links
      → filter (leads_to l) (step_moves p t T (all_nodes p))
      ≡ filter (leads_to l) (node_moves p (link_at p l).from.0 t T)
  come-from l h =
      let within = ((steady_of p sound).ends l h).0 in
      filter-flat (leads_to l) (λ n. node_moves p n t T) (all_nodes p)
      ∙ flat_one (λ n. filter (leads_to l) (node_moves p n t T)) (length p.net.nodes) 0
      (link_at p l).from.0 (omega arith) (omega (arith, within))
      (λ n other. filter_nothing (leads_to l) (node_moves p n t T)
      (All-weaker (AtNode p n t T) (λ m. leads_to l m ≡ false)
      (λ m a. false_from_ne_true (leads_to l m) (λ e. other (sym (a.leads l e))))
      (node_moves p n t T) (at-node p n t T)))

  pub entries-at : (l : ℕ) → l < length p.net.links
      → count_by (leads_to l) (step_moves p t T (all_nodes p))
      ≡ entered p (link_at p l).from.0 t T (node_moves p (link_at p l).from.0 t T) l
  unfolding entered
  entries-at l h =
      let n = (link_at p l).from.0 in
      length_filter (step_moves p t T (all_nodes p)) ∙ ap (λ L. length L) (come-from l h)
      ∙ sym (length_filter (node_moves p n t T))
    where
      length_filter : (L : List Move) → count_by (leads_to l) L ≡ length (filter (leads_to l) L)
      length_filter L = sym (length-filter (leads_to l) L)

-- the three laws
pub entries_are_within : EntriesAreWithin
unfolding trace_after after_step link_allowance
entries_are_within p sound t l h =
    are-within (link_rates p l) p.delta (leads_to l) (trace_after p t)
    (λ s. in-step (leads_to l) (trace_after p)
    (λ k. step_moves p k (trace_after p k) (all_nodes p)) (link_allowance p l) refl (λ k. refl)
    (λ k. all-now p sound k (trace_after p k)) most t s)
  where
    most : (k : ℕ)
        → count_by (leads_to l) (step_moves p k (trace_after p k) (all_nodes p))
        ≤ link_allowance p l k
    most k =
        let n = (link_at p l).from.0 in
        let T = trace_after p k in
        let at = entries-at p sound k T l h in
        let few = entered-most p n k T l (link_allowance p l k)
        (λ M e. enters-below p n k T M l e) in
        omega (arith, at, few)

-- those who leave a link in a step
module _ (p : Plan) (sound : IsSound p) (l : ℕ) (h : l < length p.net.links) where
  pub leave-now : (k : ℕ) → All (λ m. m.step ≡ k) (leaving_moves p k l)
  leave-now k =
      let n = (link_at p l).to.0 in
      let T = trace_after p k in
      All-filter (λ m. stands_on l T m.vehicle) (λ m. m.step ≡ k) (node_moves p n k T)
      (one-step p (steady_of p sound) n k T).now

  pub leave-next : (k : ℕ)
      → leavings l [] (trace_after p (suc k))
      ≡ leavings l [] (trace_after p k) ++ leaving_moves p k l
  leave-next k = (links_are_left_at_their_ends p sound k l h).step

  leave-none : leavings l [] (trace_after p 0) ≡ []
  unfolding leavings trace_after
  leave-none = refl

  pub leave-steps : (f : Move → Bool) (most : ℕ → ℕ)
      → ((k : ℕ) → count_by f (leaving_moves p k l) ≤ most k) → (t s : ℕ)
      → count_by (λ m. f m && nat_eq m.step s) (leavings l [] (trace_after p t)) ≤ most s
  leave-steps f most bound =
      in-step f (λ k. leavings l [] (trace_after p k)) (λ k. leaving_moves p k l) most leave-none
      leave-next leave-now bound

pub leavings_are_within : LeavingsAreWithin
unfolding left link_allowance
leavings_are_within p sound t l h =
    are-within (link_rates p l) p.delta (λ m. true) (leavings l [] (trace_after p t))
    (leave-steps p sound l h (λ m. true) (link_allowance p l) most t)
  where
    most : (k : ℕ) → count_by (λ m. true) (leaving_moves p k l) ≤ link_allowance p l k
    most k =
        let n = (link_at p l).to.0 in
        let T = trace_after p k in
        let at = count-filter (λ m. true) (λ m. stands_on l T m.vehicle) (node_moves p n k T) in
        let few = left-most p n k T (steady_of p sound) l in
        omega (arith, at, few)

pub turns_are_within : TurnsAreWithin
unfolding turned
turns_are_within p sound t l b h =
    are-within rates p.delta (λ m. leads_to b m && is_some (rate_in rates m.step))
    (leavings l [] (trace_after p t))
    (leave-steps p sound l h (λ m. leads_to b m && is_some (rate_in rates m.step))
    (allowance rates p.delta) most t)
  where
    rates : Rates
    rates = turn_rates p l b

    most : (k : ℕ)
        → count_by (λ m. leads_to b m && is_some (rate_in rates m.step)) (leaving_moves p k l)
        ≤ allowance rates p.delta k
    most k = by (rate_in rates k) refl
      where
        unlimited : (c : Bool) (o : Option ℕ) → o ≡ None → (c && is_some o) ≡ false
        unlimited true o e = rw e refl
        unlimited false o e = refl

        first : (c d : Bool) → (c && d) ≡ true → c ≡ true
        first true d e = refl
        first false d e = e

        by : (o : Option ℕ) → rate_in rates k ≡ o
            → count_by (λ m. leads_to b m && is_some (rate_in rates m.step)) (leaving_moves p k l)
            ≤ allowance rates p.delta k
        by None e =
            let none = count-none (λ m. leads_to b m && is_some (rate_in rates m.step))
            (leaving_moves p k l)
            (All-weaker (λ m. m.step ≡ k)
            (λ m. (leads_to b m && is_some (rate_in rates m.step)) ≡ false)
            (λ m now. unlimited (leads_to b m) (rate_in rates m.step)
            (ap (λ s. rate_in rates s) now ∙ e))
            (leaving_moves p k l) (leave-now p sound l h k)) in
            omega (arith, none)
        by (Some rate) e =
            let n = (link_at p l).to.0 in
            let T = trace_after p k in
            let less = count-less (λ m. leads_to b m && is_some (rate_in rates m.step)) (leads_to b)
            (λ m f. first (leads_to b m) (is_some (rate_in rates m.step)) f)
            (leaving_moves p k l) in
            let at = count-filter (leads_to b) (λ m. stands_on l T m.vehicle)
            (node_moves p n k T) in
            let few : count_by (λ m. leads_to b m && stands_on l T m.vehicle) (node_moves p n k T)
            ≤ allowance rates p.delta k = turned-most p n k T (steady_of p sound) l b rate e in
            omega (arith, less, at, few)
