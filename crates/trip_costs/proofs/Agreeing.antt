-- Where costs of trips are those of links.
use Rattle.std.specs.Prelude.{All, max, slice_index}
use Rattle.std.proofs.Common.{◌≡◌, ◌⊎◌, inl, inr, ℕ, zero, suc, ◌+◌, ◌-◌, ◌/◌, ◌<◌, ◌≤◌, cond, length, List, [], ◌∷◌, refl, arith, ap}
use Rattle.std.proofs.lemmas.Bool.{cases_lt}
use Rattle.std.proofs.lemmas.List.Elements.{All-head, All-tail}
use Rattle.net_core.specs.Network.{turn}
use Rattle.net_core.specs.declared.rows.NetRows.{NetRows}
use Rattle.net_core.proofs.Orders.{not_lt}
use Rattle.dta_model.specs.LinkTimes.{TimeTable, time_at, buckets_to, place_in}
use Rattle.dta_model.specs.TimedWalks.{arrival_after, penalty_steps}
use Rattle.trip_costs.specs.Greatest.{greatest_to}
use Rattle.trip_costs.specs.Laws.{EntriesAndExitsAreBounded, FreeFlowPastTheHorizon, IsBounded, NothingFalls, TimesAgree}
use Rattle.trip_costs.specs.OriginWaits.{WaitTable, wait_at}
use Rattle.trip_costs.specs.TripCosts.{after_time, after_wait, by_trips, enter_step, exit_step}
use Rattle.trip_costs.proofs.Rising.{greatest_is, greatest_least, greatest_most}

-- from the horizon on nobody waits, and each link takes its free-flow steps
pub no_wait_then : (w : WaitTable) (l s : ℕ) → w.horizon ≤ s → wait_at w l s ≡ 0
unfolding wait_at
no_wait_then w l s h = ap (λ b. cond b (slice_index w.waits (place_in (buckets_to w.bucket w.horizon) l (s / w.bucket))) 0) (not_lt s w.horizon h)

pub free_then : (t : TimeTable) (l s : ℕ) → t.horizon ≤ s → time_at t l s ≡ slice_index t.free l
unfolding time_at
free_then t l s h = ap (λ b. cond b (slice_index t.times (place_in (buckets_to t.bucket t.horizon) l (s / t.bucket))) (slice_index t.free l)) (not_lt s t.horizon h)

pub entries_then : (w : WaitTable) (l s : ℕ) → w.horizon ≤ s → enter_step w l s ≡ s
unfolding enter_step
entries_then w l s h =
    let none = no_wait_then w l s h in
    let is = greatest_is (after_wait w l) s (λ r k. omega (arith, h, k, none)) in
    omega (arith, h, none, is)

pub exits_then : (t : TimeTable) (l s : ℕ) → t.horizon ≤ s → exit_step t l s ≡ s + slice_index t.free l
unfolding exit_step
exits_then t l s h =
    let free = free_then t l s h in
    let is = greatest_is (after_time t l) s (λ r k. omega (arith, h, k, free)) in
    omega (arith, h, free, is)

pub free_flow_past_the_horizon : FreeFlowPastTheHorizon
free_flow_past_the_horizon t w l = record { entries = entries_then w l; exits = exits_then t l }

bounded : (t : TimeTable) (w : WaitTable) (l s : ℕ) → IsBounded t w l s
unfolding enter_step exit_step
bounded t w l s = record {
  enters_least = let a = greatest_least (after_wait w l) s s (omega arith) in omega (arith, a);
  enters_most = greatest_most (after_wait w l) s (max s w.horizon) (λ r k. omega (arith, k));
  leaves_least = λ one. let a = greatest_least (after_time t l) s s (omega arith) in by one a (cases_lt s t.horizon);
  leaves_most = greatest_most (after_time t l) s (max (s + slice_index t.free l) t.horizon) (λ r k. omega (arith, k));
}
  where
    by : 1 ≤ time_at t l s → after_time t l s ≤ greatest_to (after_time t l) s → (s < t.horizon) ⊎ (t.horizon ≤ s) → suc s ≤ greatest_to (after_time t l) s
    by one a (inl k) = omega (arith, one, a, k)
    by one a (inr k) = let free = free_then t l s k in omega (arith, one, a, free)

pub entries_and_exits_are_bounded : EntriesAndExitsAreBounded
entries_and_exits_are_bounded t w l s = bounded t w l s

module _ (t : TimeTable) (w : WaitTable) (falls : NothingFalls t w) where
  at_once : (l s : ℕ) → l < length t.free → enter_step w l s ≡ s
  unfolding enter_step
  at_once l s h =
      let here = falls.no_wait l s h in
      let is = greatest_is (after_wait w l) s (λ r k. let there = falls.no_wait l r h in omega (arith, k, here, there)) in
      omega (arith, here, is)

  -- before the horizon the steps after entries rise
  rises_by : (l : ℕ) → l < length t.free → (r d : ℕ) → r + d < t.horizon → r + time_at t l r ≤ r + d + time_at t l (r + d)
  rises_by l h r zero k = same r (r + 0) (omega arith)
    where
      same : (r s : ℕ) → r ≡ s → r + time_at t l r ≤ s + time_at t l s
      same r s e = let a : time_at t l r ≡ time_at t l s = ap (λ n. time_at t l n) e in omega (arith, a, e)
  rises_by l h r (suc d) k =
      let a = rises_by l h r d (omega (arith, k)) in
      let b = falls.slowly l (r + d) h (omega (arith, k)) in
      let c : time_at t l (suc (r + d)) ≡ time_at t l (r + suc d) = ap (λ n. time_at t l n) (next r d) in
      omega (arith, a, b, c)
    where
      next : (r d : ℕ) → suc (r + d) ≡ r + suc d
      next r d = omega arith

  rises_to : (l : ℕ) → l < length t.free → (r s : ℕ) → r ≤ s → s < t.horizon → r + time_at t l r ≤ s + time_at t l s
  rises_to l h r s k early =
      let e : r + (s - r) ≡ s = omega (arith, k) in
      let a = rises_by l h r (s - r) (omega (arith, e, early)) in
      let b : time_at t l (r + (s - r)) ≡ time_at t l s = ap (λ n. time_at t l n) e in
      omega (arith, a, b, e)

  early : (l s : ℕ) → l < length t.free → s < t.horizon → exit_step t l s ≡ s + time_at t l s
  unfolding exit_step
  early l s h k =
      let short = falls.short l s h k in
      let is = greatest_is (after_time t l) s (λ r q. let a = rises_to l h r s q k in omega (arith, a, q, short)) in
      omega (arith, is, short)

  takes : (l s : ℕ) → l < length t.free → exit_step t l s ≡ s + time_at t l s
  takes l s h = by (cases_lt s t.horizon)
    where
      by : (s < t.horizon) ⊎ (t.horizon ≤ s) → exit_step t l s ≡ s + time_at t l s
      by (inl k) = early l s h k
      by (inr k) = let a = exits_then t l s k in let b = free_then t l s k in omega (arith, a, b)

  same_after : (net : NetRows) (rest : List ℕ) (l r s : ℕ) → r ≡ s → l < length t.free → All (λ k. k < length t.free) rest → arrival_after (by_trips t w).at net r l rest ≡ arrival_after (time_at t) net s l rest
  unfolding arrival_after
  same_after net [] l r s e h all =
      let a = takes l r h in let b : time_at t l r ≡ time_at t l s = ap (λ n. time_at t l n) e in omega (arith, a, b, e)
  same_after net (b ∷ rest) l r s e h all =
      let a = takes l r h in
      let x : time_at t l r ≡ time_at t l s = ap (λ n. time_at t l n) e in
      same_after net rest b (r + (exit_step t l r - r) + penalty_steps (turn net l b)) (s + time_at t l s + penalty_steps (turn net l b)) (omega (arith, a, x, e))
      (All-head (λ k. k < length t.free) b rest all) (All-tail (λ k. k < length t.free) b rest all)

pub times_agree : TimesAgree
times_agree t w falls net start [] all = refl
times_agree t w falls net start (l ∷ rest) all =
    ap (λ n. n - start)
    (same_after t w falls net rest l (enter_step w l start) start
    (at_once t w falls l start (All-head (λ k. k < length t.free) l rest all))
    (All-head (λ k. k < length t.free) l rest all) (All-tail (λ k. k < length t.free) l rest all))
