-- What is true of costs of whole trips.
use Rattle.std.specs.Prelude.{◌≡◌, ℕ, suc, ◌+◌, ◌-◌, ◌<◌, ◌≤◌, max, List, length, All, Some}
use Rattle.std.specs.Prelude.{slice_get, slice_index}
use Rattle.net_core.specs.declared.rows.NetRows.{NetRows}
use Rattle.dta_model.specs.LinkTimes.{TimeTable, time_at}
use Rattle.dta_model.specs.TimedWalks.{walk_time}
use Rattle.trip_costs.specs.OriginWaits.{WaitTable, wait_at}
use Rattle.trip_costs.specs.TripCosts.{arrival_by, by_links, by_trips, enter_step, exit_step}
use Rattle.trip_costs.specs.TripCosts.{time_by}
use Rattle.trip_costs.specs.TripWalks.{IsChosenTrip}

-- who departs later never enters earlier, also across the horizon
abbrev pub EntriesNeverFall : Type 0
EntriesNeverFall =
    (w : WaitTable) (l r s : ℕ) → r ≤ s → enter_step w l r ≤ enter_step w l s

-- who enters later never leaves earlier
abbrev pub ExitsNeverFall : Type 0
ExitsNeverFall = (t : TimeTable) (l r s : ℕ) → r ≤ s → exit_step t l r ≤ exit_step t l s

-- from the horizon on nobody waits, and each link takes its free-flow steps
pub record IsFreeFlow (t : TimeTable) (w : WaitTable) (l : ℕ) : Type 0 where
  pub entries : (s : ℕ) → w.horizon ≤ s → enter_step w l s ≡ s
  pub exits : (s : ℕ) → t.horizon ≤ s → exit_step t l s ≡ s + slice_index t.free l

abbrev pub FreeFlowPastTheHorizon : Type 0
FreeFlowPastTheHorizon = (t : TimeTable) (w : WaitTable) (l : ℕ) → IsFreeFlow t w l

-- nobody enters before the departure, and no wait lasts past the horizon; a link that takes time
-- does so by trips too, and keeps nobody past the horizon, unless by the free-flow steps
pub record IsBounded (t : TimeTable) (w : WaitTable) (l s : ℕ) : Type 0 where
  pub enters_least : s ≤ enter_step w l s
  pub enters_most : enter_step w l s ≤ max s w.horizon
  pub leaves_least : 1 ≤ time_at t l s → suc s ≤ exit_step t l s
  pub leaves_most : exit_step t l s ≤ max (s + slice_index t.free l) t.horizon

abbrev pub EntriesAndExitsAreBounded : Type 0
EntriesAndExitsAreBounded = (t : TimeTable) (w : WaitTable) (l s : ℕ) → IsBounded t w l s

-- who starts later on the same route never arrives earlier
abbrev pub LaterNeverArrivesEarlier : Type 0
LaterNeverArrivesEarlier =
    (t : TimeTable) (w : WaitTable) (net : NetRows) (walk : List ℕ) (r s : ℕ) → r ≤ s
    → arrival_by (by_trips t w) net r walk ≤ arrival_by (by_trips t w) net s walk

-- no chosen walk has a link twice
abbrev pub NoLinkTwice : Type 0
NoLinkTwice =
    (t : TimeTable) (w : WaitTable) (net : NetRows) (origin destination start : ℕ)
    (walk : List ℕ) → IsChosenTrip (by_trips t w) net origin destination start walk
    → (i j l : ℕ) → slice_get walk i ≡ Some l → slice_get walk j ≡ Some l → i ≡ j

-- by costs of links a walk takes its time in the table of link times
abbrev pub LinksAreTheTable : Type 0
LinksAreTheTable =
    (at : ℕ → ℕ → ℕ) (net : NetRows) (start : ℕ) (walk : List ℕ)
    → time_by (by_links at) net start walk ≡ walk_time at net start walk

-- nobody waits at an origin, no link time falls by more than one step from a step to the next,
-- and none is above the larger of the free-flow steps and the steps that are left to the horizon
pub record NothingFalls (t : TimeTable) (w : WaitTable) : Type 0 where
  pub no_wait : (l s : ℕ) → l < length t.free → wait_at w l s ≡ 0
  pub slowly : (l s : ℕ) → l < length t.free → suc s < t.horizon
      → time_at t l s ≤ time_at t l (suc s) + 1
  pub short : (l s : ℕ) → l < length t.free → s < t.horizon
      → time_at t l s ≤ max (slice_index t.free l) (t.horizon - s)

-- then each walk takes the same time by trips as by links
abbrev pub TimesAgree : Type 0
TimesAgree =
    (t : TimeTable) (w : WaitTable) → NothingFalls t w
    → (net : NetRows) (start : ℕ) (walk : List ℕ) → All (λ l. l < length t.free) walk
    → time_by (by_trips t w) net start walk ≡ time_by (by_links (time_at t)) net start walk
