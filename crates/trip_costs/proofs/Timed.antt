-- The steps of links by either costs.
use Rattle.std.proofs.Common.{◌≡◌, ◌⊎◌, inl, inr, ℕ, List, Bool, true, false, cond, ap, ◌∙◌, ◌+◌, ◌-◌, ◌<◌, ◌≤◌, ◌^◌, ◌/◌, arith, sym, subst, Bor}
use Rattle.std.specs.Prelude.{min, nat_lt, slice_index}
use Rattle.std.proofs.lemmas.Bool.{cases_lt}
use Rattle.net_core.specs.declared.rows.NetRows.{NetRows}
use Rattle.dta_model.specs.LinkTimes.{TimeTable, bucket_count, place_in, time_at}
use Rattle.dta_model.specs.declared.loading.TheConstants.{MOST_HORIZON}
use Rattle.link_times.specs.TimeTables.{IsShort, IsTimeTable}
use Rattle.link_times.specs.declared.table.LinkTimes.{LinkTimes}
use Rattle.trip_costs.specs.TripCosts.{after_time, exit_step, steps_by_trips}
use Rattle.dta_model.specs.Walks.{IsWalk}
use Rattle.trip_costs.specs.Timings.{Links, Timing, Trips, walk_time_by}
use Rattle.trip_costs.specs.TripWalks.{IsChosenBy, IsLeastBy}
use Rattle.trip_costs.specs.WalkCosts.{AreTimed, IsLevel, enter_in, steps_in, table_in}
use Rattle.trip_costs.specs.declared.walk_costs.WalkCosts.{WalkCosts}
use Rattle.trip_costs.specs.declared.walk_costs.WalkCosts.TheVariants as costs
use Rattle.trip_costs.proofs.Agreeing.{exits_then, free_then}
use Rattle.trip_costs.proofs.Buckets.{time_same}
use Rattle.trip_costs.proofs.Entering.{entry_early, entry_late}
use Rattle.trip_costs.specs.Entries.{EntryTable, entry_at}
use Rattle.trip_costs.proofs.Rising.{greatest_most}
use Rattle.trip_costs.proofs.Walks.{exit_later, in_list}

-- by trips no link takes more steps than its greatest time
steps_most : (t : TimeTable) (l most : ℕ) → ((r : ℕ) → time_at t l r ≤ most) → (s : ℕ) → steps_by_trips t l s ≤ most
unfolding exit_step
steps_most t l most each s =
    let a = greatest_most (after_time t l) s (s + most) (λ r h. let b = each r in omega (arith, b, h)) in
    omega (arith, a)

pub most_by : (c : WalkCosts) (l most : ℕ) → ((r : ℕ) → time_at (table_in c) l r ≤ most) → (s : ℕ) → steps_in c l s ≤ most
most_by (costs.Links times) l most each s = each s
most_by (costs.Trips trips) l most each s = steps_most trips.now.exits l most each s

late_by : (c : WalkCosts) (l s : ℕ) → (table_in c).horizon ≤ s → steps_in c l s ≡ slice_index (table_in c).free l
late_by (costs.Links times) l s h = free_then times.now l s h
late_by (costs.Trips trips) l s h = let e = exits_then trips.now.exits l s h in omega (arith, e)

least_by : (c : WalkCosts) (l s : ℕ) → 1 ≤ time_at (table_in c) l s → 1 ≤ steps_in c l s
least_by (costs.Links times) l s h = h
least_by (costs.Trips trips) l s h = let e = exit_later trips.now.exits l s h in omega (arith, e)

pub timed_by : (c : WalkCosts) → IsTimeTable (table_in c) → AreTimed c
timed_by c sound = record {
  late = late_by c;
  least = λ l s h. least_by c l s (sound.least l s h);
  most = λ l s h. (
      let m = most_by c l (2 ^ 32 - 1) (λ r. let a = sound.most l r h in omega (arith, a)) s in
      omega (arith, m));
  horizon = sound.horizon;
}

-- a link has one time in each bucket
time_level : (t : TimeTable) (l r s : ℕ) → r < t.horizon → s < t.horizon → r / t.bucket ≡ s / t.bucket → time_at t l r ≡ time_at t l s
time_level t l r s hr hs e = by (cases_lt s r)
  where
    by : (s < r) ⊎ (r ≤ s) → time_at t l r ≡ time_at t l s
    by (inl h) = sym (time_same t l s r hr (omega (arith, h)) (sym e))
    by (inr h) = time_same t l r s hs h e

pub level_by_links : (c : WalkCosts) (times : Bor LinkTimes) → c ≡ costs.Links times → (l b : ℕ) → IsLevel c l b
level_by_links c times is l b = subst (λ d. IsLevel d l b) (sym is) (λ r s hr hs er es. time_level times.now l r s hr hs (er ∙ sym es))

-- nobody enters a first link before the start
pub later_by : (c : WalkCosts) (l s : ℕ) → s ≤ enter_in c l s
later_by (costs.Links times) l s = omega arith
later_by (costs.Trips trips) l s = entry_later trips.now.entries l s
  where
    entry_later : (e : EntryTable) (l s : ℕ) → s ≤ entry_at e l s
    entry_later e l s = by (cases_lt s e.horizon)
      where
        by : (s < e.horizon) ⊎ (e.horizon ≤ s) → s ≤ entry_at e l s
        by (inl h) = let is = entry_early e l s h in omega (arith, is)
        by (inr h) = let is = entry_late e l s h in omega (arith, is)

-- from the horizon on a link takes the same steps
pub capped_by : (c : WalkCosts) (l s : ℕ) → steps_in c l (min s (table_in c).horizon) ≡ steps_in c l s
capped_by c l s = by (cases_lt s (table_in c).horizon)
  where
    by : (s < (table_in c).horizon) ⊎ ((table_in c).horizon ≤ s) → steps_in c l (min s (table_in c).horizon) ≡ steps_in c l s
    by (inl h) = let same : min s (table_in c).horizon ≡ s = omega (arith, h) in ap (λ n. steps_in c l n) same
    by (inr h) = late_by c l (min s (table_in c).horizon) (omega (arith, h)) ∙ sym (late_by c l s h)

-- in a short table no link takes more steps than the longest horizon has
time_short : (t : TimeTable) (l s : ℕ) → IsShort t → time_at t l s ≤ MOST_HORIZON
unfolding time_at
time_short t l s short = by (nat_lt s t.horizon)
  where
    by : (b : Bool) → cond b (slice_index t.times (place_in (bucket_count t) l (s / t.bucket))) (slice_index t.free l) ≤ MOST_HORIZON
    by true = in_list MOST_HORIZON t.times (place_in (bucket_count t) l (s / t.bucket)) short.times
    by false = in_list MOST_HORIZON t.free l short.free

pub short_by : (c : WalkCosts) (l s : ℕ) → IsShort (table_in c) → steps_in c l s ≤ MOST_HORIZON
short_by c l s short = most_by c l MOST_HORIZON (λ r. time_short (table_in c) l r short) s

-- what the least time is by either costs
pub none_less_by : (c : Timing) (net : NetRows) (o d s m : ℕ) → IsLeastBy c net o d s m → (walk : List ℕ) → IsWalk net o d walk → m ≤ walk_time_by c net s walk
none_less_by (Links at) net o d s m least walk is = least.none_less walk is
none_less_by (Trips costs) net o d s m least walk is = least.none_less walk is

pub some_walk_by : (c : Timing) (net : NetRows) (o d s m : ℕ) → IsLeastBy c net o d s m → (walk : List ℕ) × IsWalk net o d walk × (walk_time_by c net s walk ≡ m)
some_walk_by (Links at) net o d s m least = least.some_walk
some_walk_by (Trips costs) net o d s m least = least.some_walk

pub walks_by : (c : Timing) (net : NetRows) (o d s : ℕ) (walk : List ℕ) → IsChosenBy c net o d s walk → IsWalk net o d walk
walks_by (Links at) net o d s walk chosen = chosen.walks
walks_by (Trips costs) net o d s walk chosen = chosen.walks
