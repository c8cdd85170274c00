-- The time of a walk over a table and a way to start. By link times a walk's first link is entered
-- at the start. By trips it is entered after the wait at the origin, and no link is left earlier
-- by who enters it later.
use Rattle.std.specs.Prelude.{◌≡◌, ℕ, ◌+◌, ◌-◌, ◌/◌, ◌<◌, max, min, List, [], ◌∷◌, slice_index}
use Rattle.net_core.specs.declared.rows.NetRows.{NetRows}
use Rattle.dta_model.specs.LinkTimes.{TimeTable, time_at}
use Rattle.dta_model.specs.TimedWalks.{arrival_step}
use Rattle.trip_costs.specs.Greatest.{greatest_to}
use Rattle.trip_costs.specs.OriginWaits.{WaitTable, wait_at}

-- the step after a departure and its wait, which doesn't last past the horizon
abbrev pub after_wait : WaitTable → ℕ → ℕ → ℕ
after_wait w l step = max step (min (step + wait_at w l step) w.horizon)

-- the step in which who departs in a step for link l enters it: the latest of those who depart up
-- to that step
unfoldable pub enter_step : WaitTable → ℕ → ℕ → ℕ
enter_step w l step = greatest_to (after_wait w l) step

-- the step after an entry and the link's time, which doesn't last past the horizon, unless the
-- free-flow steps do
abbrev pub after_time : TimeTable → ℕ → ℕ → ℕ
after_time t l step = min (step + time_at t l step) (max (step + slice_index t.free l) t.horizon)

-- the step in which who enters link l in a step leaves it: the latest of those who enter up to
-- that step
unfoldable pub exit_step : TimeTable → ℕ → ℕ → ℕ
exit_step t l step = greatest_to (after_time t l) step

-- what walks are timed by: the step in which who starts in a step enters a first link, and the
-- steps that a link takes who enters it in a step
pub record TravelCosts : Type 0 where
  pub enter : ℕ → ℕ → ℕ
  pub at : ℕ → ℕ → ℕ

-- costs of links, over a table of their times
abbrev pub by_links : (ℕ → ℕ → ℕ) → TravelCosts
by_links at = record { enter = λ l step. step; at = at }

-- the steps that a link takes by trips who enters it in a step
abbrev pub steps_by_trips : TimeTable → ℕ → ℕ → ℕ
steps_by_trips t l step = exit_step t l step - step

-- a link takes as many steps in each step of a bucket before the horizon
abbrev pub IsLevelBy : (ℕ → ℕ → ℕ) → TimeTable → ℕ → ℕ → Type 0
IsLevelBy at t l b = (r s : ℕ) → r < t.horizon → s < t.horizon
    → r / t.bucket ≡ b → s / t.bucket ≡ b → at l r ≡ at l s

-- costs of whole trips, over a table of link times and one of waits
abbrev pub by_trips : TimeTable → WaitTable → TravelCosts
by_trips t w = record { enter = enter_step w; at = steps_by_trips t }

-- the step in which the first link of a walk is entered
abbrev pub begin_step : TravelCosts → ℕ → List ℕ → ℕ
begin_step costs start [] = start
begin_step costs start (l ∷ rest) = costs.enter l start

-- the step in which a walk arrives
abbrev pub arrival_by : TravelCosts → NetRows → ℕ → List ℕ → ℕ
arrival_by costs net start walk =
    arrival_step costs.at net (begin_step costs start walk) walk

-- the time of a walk: its arrival less its start
abbrev pub time_by : TravelCosts → NetRows → ℕ → List ℕ → ℕ
time_by costs net start walk = arrival_by costs net start walk - start
