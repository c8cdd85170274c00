-- The time of a walk by trips, link by link.
use Rattle.std.specs.Prelude.{All, min, nat_eq, find, ◌&&◌}
use Rattle.std.proofs.Common.{◌≡◌, ◌⊎◌, inl, inr, ℕ, zero, suc, ◌+◌, ◌<◌, ◌≤◌, Bool, true, false, cond, List, [], ◌∷◌, length, refl, ap, sym, ◌∙◌, subst, arith, get_or, drop, Some, None}
use Rattle.std.proofs.lemmas.Bool.{cases_lt}
use Rattle.std.proofs.lemmas.List.{length-map}
use Rattle.fixed_units.specs.declared.turn.TheConstants.{MOST_PENALTY_STEPS}
use Rattle.net_core.specs.Network.{IsNet, as_turn, free_turn, is_named, link_at, turn, turn_at}
use Rattle.net_core.specs.Rows.{IsTurnInRange}
use Rattle.net_core.specs.declared.rows.LinkNo.{LinkNo}
use Rattle.net_core.specs.declared.rows.NetRows.{NetRows}
use Rattle.net_core.specs.declared.rows.Turn.{Turn}
use Rattle.net_core.specs.declared.rows.TurnRow.{TurnRow}
use Rattle.dta_model.specs.LinkTimes.{TimeTable, table_in, table_of, time_at}
use Rattle.dta_model.specs.Plans.{link_numbers}
use Rattle.dta_model.specs.Sound.{IsSound}
use Rattle.dta_model.specs.declared.plan.Plan.{Plan}
use Rattle.dta_model.specs.TimedWalks.{arrival_after, penalty_steps}
use Rattle.dta_model.specs.declared.loading.TheConstants.{MOST_HORIZON}
use Rattle.link_times.specs.TimeTables.{IsShort}
use Rattle.link_times.proofs.Links.{steps_most}
use Rattle.trip_costs.specs.OriginWaits.{WaitTable}
use Rattle.trip_costs.specs.TripCosts.{TravelCosts, by_trips, enter_step, exit_step, steps_by_trips}
use Rattle.trip_costs.proofs.Agreeing.{entries_and_exits_are_bounded, exits_then}

-- an exit comes after the entry, and no later than the longest horizon has steps
pub exit_later : (t : TimeTable) (l s : ℕ) → 1 ≤ time_at t l s → s < exit_step t l s
exit_later t l s one = let a = (entries_and_exits_are_bounded t (record { bucket = 1; horizon = 0; waits = []; departed = [] }) l s).leaves_least one in omega (arith, a)

pub in_list : (most : ℕ) (xs : List ℕ) (k : ℕ) → All (λ x. x ≤ most) xs → get_or xs k 0 ≤ most
in_list most [] k all = omega arith
in_list most (x ∷ xs) zero all = all 0 0 (omega arith)
in_list most (x ∷ xs) (suc k) all = in_list most xs k (λ i d h. all (suc i) d (omega (arith, h)))

pub exit_soon : (t : TimeTable) (l s : ℕ) → IsShort t → t.horizon ≤ MOST_HORIZON → exit_step t l s ≤ s + MOST_HORIZON
exit_soon t l s short h =
    let a = (entries_and_exits_are_bounded t (record { bucket = 1; horizon = 0; waits = []; departed = [] }) l s).leaves_most in
    let f = in_list MOST_HORIZON t.free l short.free in
    omega (arith, a, f, h)

-- from the horizon on a link takes the same steps
pub steps_capped : (t : TimeTable) (l s : ℕ) → steps_by_trips t l (min s t.horizon) ≡ steps_by_trips t l s
steps_capped t l s = by (cases_lt s t.horizon)
  where
    by : (s < t.horizon) ⊎ (t.horizon ≤ s) → steps_by_trips t l (min s t.horizon) ≡ steps_by_trips t l s
    by (inl h) = let same : min s t.horizon ≡ s = omega (arith, h) in ap (λ n. steps_by_trips t l n) same
    by (inr h) =
        let a = exits_then t l s h in
        let b = exits_then t l (min s t.horizon) (omega (arith, h)) in
        omega (arith, a, b)

-- ---- penalties are in range
found_in : (rows : List TurnRow) (p : TurnRow → Bool) (way : Turn) → All IsTurnInRange rows → as_turn (find p rows) ≡ Some way → way.penalty ≤ MOST_PENALTY_STEPS
found_in [] p way all h = cc
found_in (row ∷ rows) p way all h = by (p row) (λ e. found_in rows p way (λ k d n. all (suc k) d (omega (arith, n))) e) h
  where
    told : as_turn (Some row) ≡ Some way → row.penalty ≡ way.penalty
    told e = cc

    by : (b : Bool) → (as_turn (find p rows) ≡ Some way → way.penalty ≤ MOST_PENALTY_STEPS) → as_turn (cond b (Some row) (find p rows)) ≡ Some way → way.penalty ≤ MOST_PENALTY_STEPS
    by true ih e = let t = told e in let r = (all 0 row (omega arith)).penalty in omega (arith, t, r)
    by false ih e = ih e

pub penalty_short : (net : NetRows) (a b : ℕ) (way : Turn) → IsNet net → turn net a b ≡ Some way → way.penalty ≤ MOST_PENALTY_STEPS
unfolding turn turn_at
penalty_short net a b way sound h = by (nat_eq (link_at net b).from.0 (link_at net a).to.0) (is_named net (link_at net a).to.0) h
  where
    free_is : Some free_turn ≡ Some way → way.penalty ≡ 0
    free_is e = cc

    by : (m n : Bool) → cond m (cond n (as_turn (find (λ row. nat_eq row.a.0 a && nat_eq row.b.0 b) net.turns)) (Some free_turn)) None ≡ Some way → way.penalty ≤ MOST_PENALTY_STEPS
    by true true e = found_in net.turns (λ row. nat_eq row.a.0 a && nat_eq row.b.0 b) way sound.turns.range e
    by true false e = let z = free_is e in omega (arith, z)
    by false n e = cc

-- ---- the arrival after one link more
pub arrival_more : (at : ℕ → ℕ → ℕ) (net : NetRows) (step new l : ℕ) (others : List LinkNo) (i : ℕ) (d : LinkNo) → i < length others
    → new ≡ step + (at l step + penalty_steps (turn net l (get_or others i d).0))
    → arrival_after at net new (get_or others i d).0 (link_numbers (drop (i + 1) others)) ≡ arrival_after at net step l (link_numbers (drop i others))
unfolding arrival_after
arrival_more at net step new l [] i d h e = absurd (omega (arith, h))
arrival_more at net step new l (b ∷ rest) zero d h e =
    let same : new ≡ step + at l step + penalty_steps (turn net l b.0) = omega (arith, e) in
    ap (λ s. arrival_after at net s b.0 (link_numbers rest)) same
arrival_more at net step new l (b ∷ rest) (suc i) d h e =
    let next : suc i + 1 ≡ suc (i + 1) = omega arith in
    rw next (arrival_more at net step new l rest i d (omega (arith, h)) e)

past : (others : List LinkNo) (i : ℕ) → length others ≤ i → drop i others ≡ []
past [] zero h = refl
past [] (suc i) h = refl
past (b ∷ rest) zero h = absurd (omega (arith, h))
past (b ∷ rest) (suc i) h = past rest i (omega (arith, h))

pub arrival_last : (at : ℕ → ℕ → ℕ) (net : NetRows) (step last l : ℕ) (others : List LinkNo) (i : ℕ) → length others ≤ i → last ≡ at l step
    → step + last ≡ arrival_after at net step l (link_numbers (drop i others))
unfolding arrival_after
arrival_last at net step last l others i h e = rw (past others i h, e) refl

-- ---- the costs of a loading
pub times_short : (p : Plan) (bucket : ℕ) (t : TimeTable) → IsSound p → t ≡ table_of p bucket → All (λ x. x ≤ MOST_HORIZON) t.times → IsShort t
unfolding table_in
times_short p bucket t sound is times = record {
  times = times;
  free = subst (λ (xs : List ℕ). All (λ x. x ≤ MOST_HORIZON) xs) (sym (ap (λ (x : TimeTable). x.free) is)) (steps_most p.net sound.net);
}

pub times_many : (p : Plan) (bucket : ℕ) (t : TimeTable) → t ≡ table_of p bucket → length t.free ≡ length p.net.links
unfolding table_in
times_many p bucket t is = ap (λ (x : TimeTable). length x.free) is ∙ length-map p.net.links (λ link. link.free)

pub times_end : (p : Plan) (bucket : ℕ) (t : TimeTable) → IsSound p → t ≡ table_of p bucket → t.horizon ≤ MOST_HORIZON
unfolding table_in
times_end p bucket t sound is =
    let e : t.horizon ≡ p.horizon = ap (λ (x : TimeTable). x.horizon) is in
    let m = sound.horizon_most in
    omega (arith, e, m)

costs : (ℕ → ℕ → ℕ) → TimeTable → TravelCosts
costs enter t = record { enter = enter; at = steps_by_trips t }

pub costs_are : (enter : ℕ → ℕ → ℕ) (w v : WaitTable) (t u : TimeTable) → enter ≡ enter_step w → w ≡ v → t ≡ u → record { enter = enter; at = steps_by_trips t } ≡ by_trips u v
unfolding costs
costs_are enter w v t u ee ew et =
    ap (λ f. costs f t) (ee ∙ ap (λ x. enter_step x) ew) ∙ ap (λ x. costs (enter_step v) x) et
