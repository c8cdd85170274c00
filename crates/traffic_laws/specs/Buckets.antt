-- What link times and the numbers beside them mean, and how entries, turns, departures and arrivals
-- add up.
use Rattle.std.specs.Prelude.{[], ◌≡◌, ℕ, suc, ◌+◌, ◌-◌, ◌*◌, ◌<◌, ◌≤◌, Bool, false, ◌&&◌, nat_eq}
use Rattle.std.specs.Prelude.{nat_le, nat_lt, List, length, count_by, sum_by, Option, None, Some}
use Rattle.std.specs.Prelude.{slice_get}
use Rattle.net_core.specs.Network.{numbers_below}
use Rattle.dta_model.specs.LinkTimes.{buckets_to, entered_in, table_of, time_at}
use Rattle.dta_model.specs.Loading.{trace_after}
use Rattle.dta_model.specs.NodeMoves.{is_first}
use Rattle.dta_model.specs.Plans.{first_link, link_at, route_of, vehicles_of}
use Rattle.dta_model.specs.Room.{leavings}
use Rattle.dta_model.specs.Sound.{IsSound}
use Rattle.dta_model.specs.State.{has_arrived}
use Rattle.dta_model.specs.Trace.{Move, has_moved, leads_to, queue_of}
use Rattle.dta_model.specs.declared.plan.Plan.{Plan}
use Rattle.counts.specs.Turns.{timed, times_taken}

-- the sum of a number over 0, 1 and so on, below a bound
abbrev pub sum_below : ℕ → (ℕ → ℕ) → ℕ
sum_below bound number = sum_by number (numbers_below bound)

-- no link takes less than its free-flow steps, whatever the step of entry
abbrev pub TimesAreNotBelowFree : Type 0
TimesAreNotBelowFree =
    (p : Plan) (bucket l step : ℕ) → 1 ≤ bucket → l < length p.net.links
    → (link_at p l).free ≤ time_at (table_of p bucket) l step

-- whether a move enters a link in a step of a bucket
abbrev pub enters_in : ℕ → ℕ → ℕ → Move → Bool
enters_in bucket l b m =
    leads_to l m && nat_le (b * bucket) m.step && nat_lt m.step (suc b * bucket)

-- the number of a bucket is how many moves enter the link in its steps
abbrev pub EnteredAreCounted : Type 0
EnteredAreCounted =
    (p : Plan) (bucket l b : ℕ) → 1 ≤ bucket → l < length p.net.links
    → b < buckets_to bucket p.horizon
    → entered_in (table_of p bucket) l b
    ≡ count_by (enters_in bucket l b) (trace_after p p.horizon)

-- the entries of a link over all buckets of a loading, and the turns from a link to another
abbrev pub entries_of_link : Plan → ℕ → ℕ → ℕ
entries_of_link p bucket l =
    sum_below (buckets_to bucket p.horizon) (entered_in (table_of p bucket) l)

abbrev pub turns_between : Plan → ℕ → ℕ → ℕ → ℕ
turns_between p bucket a b =
    sum_below (buckets_to bucket p.horizon)
    (λ k. times_taken bucket (timed a b k) (trace_after p p.horizon))

-- how many vehicles departed onto a link: their routes begin there, and they have moved
abbrev pub departures_onto : Plan → ℕ → ℕ
departures_onto p l =
    count_by (λ v. is_first l (first_link p v) && has_moved v (trace_after p p.horizon))
    (vehicles_of p)

-- the last link of a vehicle's route, and whether it is link l
abbrev pub last_link : Plan → ℕ → Option ℕ
last_link p v = slice_get (route_of p v) (length (route_of p v) - 1)

abbrev pub is_last : ℕ → Option ℕ → Bool
is_last l None = false
is_last l (Some b) = nat_eq b l

-- how many vehicles arrived from a link: their routes end there, and they have arrived
abbrev pub arrivals_from : Plan → ℕ → ℕ
arrivals_from p l =
    count_by (λ v. is_last l (last_link p v) && has_arrived (trace_after p p.horizon) v)
    (vehicles_of p)

-- the moves by which a link is left
abbrev pub leavings_of : Plan → ℕ → List Move
leavings_of p l = leavings l [] (trace_after p p.horizon)

-- the entries of a link are the departures onto it and the turns into it from any link
abbrev pub EntriesComeFrom : Type 0
EntriesComeFrom =
    (p : Plan) (bucket l : ℕ) → IsSound p → 1 ≤ bucket → l < length p.net.links
    → entries_of_link p bucket l
    ≡ departures_onto p l + sum_below (length p.net.links) (λ a. turns_between p bucket a l)

-- the leavings of a link are the turns out of it to any link and the arrivals from it. Who entered
-- it has left it, or is on it at the end
pub record IsLeftBy (p : Plan) (bucket l : ℕ) : Type 0 where
  pub leavings : length (leavings_of p l)
      ≡ sum_below (length p.net.links) (λ b. turns_between p bucket l b) + arrivals_from p l
  pub entries : entries_of_link p bucket l
      ≡ length (leavings_of p l) + length (queue_of l (trace_after p p.horizon))

abbrev pub LeavingsGoTo : Type 0
LeavingsGoTo =
    (p : Plan) (bucket l : ℕ) → IsSound p → 1 ≤ bucket → l < length p.net.links
    → IsLeftBy p bucket l
