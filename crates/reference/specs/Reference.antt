-- The iterations of an assignment, and its texts, from settings and traffic.
use Rattle.std.specs.Prelude.{ℕ, zero, suc, ◌+◌, ◌-◌, Bool, true, false, List, [], ◌∷◌, ◌++◌, map}
use Rattle.pending_text.specs.Outs.{OutText}
use Rattle.std.specs.Prelude.{Option, None, Some}
use Rattle.net_core.specs.Network.{numbers_below}
use Rattle.gap.specs.declared.line.GapLine.{GapLine}
use Rattle.dta_words.specs.declared.command.Settings.{Settings}
use Rattle.assignment.specs.Assignment.{Traffic, VehicleRoutes, costs_of, end_of}
use Rattle.reference.specs.Gaps.{gap_of}
use Rattle.reference.specs.Routes.{all_since, first_routes, next_routes}
use Rattle.commands.specs.Texts.{end_lines, last_texts}

-- ---- iterations

-- the routes after the iteration of this number, by the costs of its loading
abbrev pub routes_after : Settings → Traffic → (number : ℕ) → VehicleRoutes → VehicleRoutes
routes_after s traffic number routes =
    next_routes (costs_of s traffic routes) traffic.net traffic.trips number routes

-- the routes of the iteration at a place, from 0
unfoldable pub routes_at : Settings → Traffic → (place : ℕ) → VehicleRoutes
routes_at s traffic zero = first_routes traffic.net traffic.start traffic.trips
routes_at s traffic (suc i) = routes_after s traffic (i + 1) (routes_at s traffic i)

-- the gap of these routes, by the costs of their loading
abbrev pub gap_by : Settings → Traffic → VehicleRoutes → GapLine
gap_by s traffic routes =
    gap_of (costs_of s traffic routes) traffic.net traffic.trips routes

abbrev pub gap_at : Settings → Traffic → (place : ℕ) → GapLine
gap_at s traffic place = gap_by s traffic (routes_at s traffic place)

-- the routes of the first iterations, so many, and the gaps of all
abbrev pub routes_until : Settings → Traffic → (iterations : ℕ) → List VehicleRoutes
routes_until s traffic iterations = map (routes_at s traffic) (numbers_below iterations)

abbrev pub all_gaps : Settings → Traffic → List GapLine
all_gaps s traffic = map (gap_at s traffic) (numbers_below s.iterations)

-- ---- texts

-- the watch lines of iterations, the first of which has this number, by the plain loader: one for
-- the state after the last step, where there is a watch
unfoldable pub watch_texts : Settings → Traffic → (number : ℕ) → List VehicleRoutes → List OutText
watch_texts s traffic number [] = []
watch_texts s traffic number (routes ∷ others) =
    end_lines s.watch number (end_of s traffic routes) ++ watch_texts s traffic (number + 1) others

-- since which iterations the vehicles have their routes, where it is told
abbrev pub since_told : (start : Bool) → Settings → Traffic → Option (List ℕ)
since_told false s traffic = None
since_told true s traffic =
    Some (all_since s.costs traffic.net traffic.start traffic.trips s.iterations)

-- the texts of an assignment but its watch lines
unfoldable pub assigned_texts : Settings → Traffic → List OutText
assigned_texts s traffic =
    last_texts s.command s traffic (routes_at s traffic (s.iterations - 1))
    (since_told s.start s traffic) (all_gaps s traffic) (gap_at s traffic (s.iterations - 1))
