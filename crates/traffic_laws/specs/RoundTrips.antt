-- Round trips: what a command writes another one reads.
use Rattle.std.specs.Prelude.{◌≡◌, ℕ, ◌*◌, ◌≤◌, List, [], All, length, map, slice_get, Ok, Option}
use Rattle.std.specs.Prelude.{None, Some, IfSome}
use Rattle.fixed_units.specs.declared.identifier.TheConstants.{GREATEST_IDENTIFIER}
use Rattle.row_reader.specs.Records.{records}
use Rattle.net_core.specs.declared.rows.LinkNo.{LinkNo}
use Rattle.net_core.specs.declared.rows.NetRows.{NetRows}
use Rattle.dta_model.specs.LinkTimes.{table_of, time_at}
use Rattle.dta_model.specs.Loading.{journeys_of}
use Rattle.dta_model.specs.Sound.{IsSound}
use Rattle.dta_model.specs.declared.loading.TheConstants.{MOST_LINK_STEPS}
use Rattle.dta_model.specs.declared.plan.Plan.{Plan}
use Rattle.dta_model.specs.declared.trip.Trip.{Trip}
use Rattle.start_table.specs.StartTable.{start_verdict}
use Rattle.start_table.specs.Starts.{AreStartRows, Fits, TellsStart}
use Rattle.start_table.specs.declared.rows.StartRow.{StartRow}
use Rattle.route_flows.specs.Averages.{AreStartedRoutes}
use Rattle.skims.specs.GivenTimes.{table_given}
use Rattle.skims.specs.TimesTable.{times_verdict}
use Rattle.skims.specs.declared.time_rows.TimeRow.{TimeRow}
use Rattle.reports.specs.Texts.{agent_text_by, link_time_text}
use Rattle.agent_table.specs.Agents.{agents_verdict}
use Rattle.audit.specs.Audit.{IsAudit}
use Rattle.agent_table.specs.declared.rows.AgentRow.{AgentRow}
use Rattle.audit.specs.declared.plan.Plan.{Plan as AuditPlan}
use Rattle.audit.specs.declared.verdict.Verdict.{Verdict}
use Rattle.audit.specs.declared.verdict.Verdict.TheVariants.{Yes}

-- ---- link times

-- the limits of a network that was read: identifiers of links are those that a table may have, and
-- links times steps are no more than there may be
pub record IsWithinLimits (p : Plan) : Type 0 where
  pub ids : All (λ link. link.id ≤ GREATEST_IDENTIFIER) p.net.links
  pub few : length p.net.links * p.horizon ≤ MOST_LINK_STEPS

-- the link times of a loading, written as `assign` does and read as `skim` and `audit` do, with
-- the same buckets up to the same horizon: they are accepted, and the rows have the very numbers,
-- so that the table which `skim` takes is that of the loading
pub record AreReadBack (p : Plan) (bucket : ℕ) : Type 0 where
  pub rows : List TimeRow
  pub accepted :
      times_verdict p.net bucket p.horizon (records (link_time_text p.net (table_of p bucket)))
      ≡ Ok rows
  pub entered : map (λ row. row.entered) rows ≡ (table_of p bucket).entered
  pub travel : map (λ row. row.travel) rows ≡ (table_of p bucket).times
  pub same : time_at (table_given p.net bucket p.horizon rows) ≡ time_at (table_of p bucket)

abbrev pub LinkTimesAreReadBack : Type 0
LinkTimesAreReadBack =
    (p : Plan) (bucket : ℕ) → IsSound p → IsWithinLimits p → 1 ≤ bucket → AreReadBack p bucket

-- ---- routes

-- identifiers that were read: those of links and of the zones of trips are such as a table may have
pub record HasIdentifiersInRange (p : Plan) : Type 0 where
  pub links : All (λ link. link.id ≤ GREATEST_IDENTIFIER) p.net.links
  pub origins : All (λ trip. trip.origin ≤ GREATEST_IDENTIFIER) p.trips
  pub destinations : All (λ trip. trip.destination ≤ GREATEST_IDENTIFIER) p.trips

-- iterations, where the agents tell those of their routes: a number for each vehicle
abbrev pub AreIterationsTold : Plan → Option (List ℕ) → Type 0
AreIterationsTold p since =
    IfSome since (λ told. (length told ≡ length p.trips)
    × All (λ n. n ≤ GREATEST_IDENTIFIER) told)

-- the row of a vehicle: it fits the vehicle by the vehicle's very route, and has no links where
-- the vehicle has no route
abbrev pub IsRowOf : NetRows → Trip → Option (List LinkNo) → StartRow → Type 0
IsRowOf net trip None row = (row.agent ≡ trip.number) × (row.links ≡ [])
IsRowOf net trip (Some route) row = Fits net trip row route

-- the agents of a loading, written as `assign` does, without a start table or with one, and read as
-- a start table: they are accepted, and there is a row for each vehicle in order, which tells the
-- vehicle's route. So does the table: no row of it fits a vehicle without a route. And in any first
-- iteration from these rows a vehicle that has a route has the same one
pub record AreRoutesReadBack (p : Plan) (since : Option (List ℕ)) : Type 0 where
  pub rows : List StartRow
  pub accepted :
      start_verdict (records (agent_text_by p.net p.trips p.routes (journeys_of p) since))
      ≡ Ok rows
  pub sound : AreStartRows rows
  pub many : length rows ≡ length p.trips
  pub each : (v : ℕ) (trip : Trip) (route : Option (List LinkNo)) → slice_get p.trips v ≡ Some trip
      → slice_get p.routes v ≡ Some route
      → (row : StartRow) × (slice_get rows v ≡ Some row) × IsRowOf p.net trip route row
  pub starts : (v : ℕ) (trip : Trip) (route : Option (List LinkNo))
      → slice_get p.trips v ≡ Some trip → slice_get p.routes v ≡ Some route
      → TellsStart p.net rows trip route
  pub again : (routes : List (Option (List LinkNo)))
      → AreStartedRoutes p.net rows p.trips routes
      → (v : ℕ) (route : List LinkNo) → slice_get p.routes v ≡ Some (Some route)
      → slice_get routes v ≡ Some (Some route)

abbrev pub RoutesAreReadBack : Type 0
RoutesAreReadBack =
    (p : Plan) (since : Option (List ℕ)) → IsSound p → HasIdentifiersInRange p
    → AreIterationsTold p since → AreRoutesReadBack p since

-- ---- audits

-- how a loading was made, as an audit of its tables is told: with buckets of so many steps
abbrev pub made_as : Plan → ℕ → AuditPlan
made_as p bucket = record {
  queue = p.queue;
  delta = p.delta;
  horizon = p.horizon;
  bucket = bucket;
}

-- the agents and the link times of a loading, written as `assign` does, without a start table or
-- with one, and read as `audit` does: both are accepted, and the audit over the same network and
-- trips, of a loading that was made in the same way, says yes and nothing else
pub record PassesAudit (p : Plan) (since : Option (List ℕ)) (bucket : ℕ) : Type 0 where
  pub agents : List AgentRow
  pub times : List TimeRow
  pub agents_accepted :
      agents_verdict (records (agent_text_by p.net p.trips p.routes (journeys_of p) since))
      ≡ Ok agents
  pub times_accepted :
      times_verdict p.net bucket p.horizon (records (link_time_text p.net (table_of p bucket)))
      ≡ Ok times
  pub yes : IsAudit p.net p.trips agents times (made_as p bucket) Yes
  pub only : (v : Verdict) → IsAudit p.net p.trips agents times (made_as p bucket) v → v ≡ Yes

abbrev pub AnAuditSaysYes : Type 0
AnAuditSaysYes =
    (p : Plan) (since : Option (List ℕ)) (bucket : ℕ) → IsSound p → IsWithinLimits p
    → HasIdentifiersInRange p → AreIterationsTold p since → 1 ≤ bucket
    → PassesAudit p since bucket
