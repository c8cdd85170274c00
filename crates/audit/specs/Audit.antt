-- What an audit checks, in its order: the rows of the agent table against the trips and the
-- network, the same rows against the loading over their routes, and the rows of the table of link
-- times against that loading.
use Rattle.std.specs.Prelude.{ℕ, ◌+◌, ◌*◌, ◌/◌, ◌%◌, if◌then◌else◌, nat_lt, List, [], ◌∷◌, ◌++◌}
use Rattle.std.specs.Prelude.{◌≤◌, length, map, Option, None, Some, slice_get}
use Rattle.std.specs.List.{enumerate_from, flat_map, zip}
use Rattle.desk_io.specs.declared.desk.Table.TheVariants as table
use Rattle.fixed_units.specs.declared.link.TheConstants.{MOST_STEP}
use Rattle.row_reader.specs.declared.faults.Column.{Column}
use Rattle.row_reader.specs.declared.faults.Column.TheVariants as column
use Rattle.net_core.specs.Rows.{link_named}
use Rattle.net_core.specs.declared.rows.LinkNo.{LinkNo}
use Rattle.net_core.specs.declared.rows.NetRows.{NetRows}
use Rattle.dta_model.specs.LinkTimes.{TimeTable, bucket_count, entered_in, table_of, time_at}
use Rattle.dta_model.specs.Loading.{journeys_of}
use Rattle.dta_model.specs.Sound.{IsQueue}
use Rattle.dta_model.specs.declared.loaded.Journey.{Journey}
use Rattle.dta_model.specs.declared.loading.TheConstants.{MOST_HORIZON}
use Rattle.dta_model.specs.declared.plan.Plan.{Plan as LoadingPlan}
use Rattle.dta_model.specs.declared.trip.Trip.{Trip}
use Rattle.reports.specs.Texts.{status_name, told_status}
use Rattle.skims.specs.declared.time_rows.TimeRow.{TimeRow}
use Rattle.audit.specs.Checks.{Check, Statement, IsVerdict, names_route, never, same_if_any}
use Rattle.audit.specs.Checks.{same_list, same_number}
use Rattle.agent_table.specs.declared.rows.AgentRow.{AgentRow}
use Rattle.audit.specs.declared.plan.Plan.{Plan}
use Rattle.audit.specs.declared.verdict.Verdict.{Verdict}

-- ---- the rows of the agent table

-- a check of a column of row r, from 0; the header is line 1
abbrev pub of_agent : ℕ → Column → Statement → Check
of_agent r what statement =
    record { statement = statement; table = table.Start; line = r + 2; column = what }

-- row r names vehicle r, and its zones and its departure are those of that vehicle's trip
abbrev pub number_checks : ℕ → Trip → AgentRow → List Check
number_checks r trip row =
    of_agent r column.AgentId (same_number row.agent r)
    ∷ of_agent r column.OZoneId (same_number row.origin trip.origin)
    ∷ of_agent r column.DZoneId (same_number row.destination trip.destination)
    ∷ of_agent r column.DepartureStep (same_number row.departure trip.departure) ∷ []

-- and its links are a route for the vehicle, or it has none. A row past the last trip is one too
-- many
abbrev pub trip_checks : NetRows → ℕ → Option Trip → AgentRow → List Check
trip_checks net r None row = of_agent r column.AgentId never ∷ []
trip_checks net r (Some trip) row =
    number_checks r trip row ++ of_agent r column.LinkIds (names_route net trip row.links) ∷ []

-- the same of a row with its place
abbrev pub trip_checks_at : NetRows → List Trip → ℕ × AgentRow → List Check
trip_checks_at net trips numbered =
    trip_checks net numbered.0 (slice_get trips numbered.0) numbered.1

unfoldable pub all_trip_checks : NetRows → List Trip → List AgentRow → List Check
all_trip_checks net trips agents = flat_map (trip_checks_at net trips) (enumerate_from 0 agents)

-- where rows are missing, the line after the last one fails
abbrev pub missing_checks : List Trip → List AgentRow → List Check
missing_checks trips agents =
    if nat_lt (length agents) (length trips)
    then of_agent (length agents) column.NoColumn never ∷ [] else []

-- ---- the loading over the routes of the agent table

-- the link with an identifier, if there is one, as a list
abbrev pub one_link : Option LinkNo → List LinkNo
one_link None = []
one_link (Some link) = link ∷ []

-- the route that identifiers name; none name no route
abbrev pub route_named : NetRows → List ℕ → Option (List LinkNo)
route_named net [] = None
route_named net (id ∷ ids) = Some (flat_map (λ i. one_link (link_named net.links i)) (id ∷ ids))

abbrev pub routes_named : NetRows → List AgentRow → List (Option (List LinkNo))
routes_named net agents = map (λ row. route_named net row.links) agents

-- the loading of the trips over these routes
abbrev pub loading_of : NetRows → List Trip → List AgentRow → Plan → LoadingPlan
loading_of net trips agents plan = record {
  net = net;
  queue = plan.queue;
  delta = plan.delta;
  horizon = plan.horizon;
  trips = trips;
  routes = routes_named net agents;
}

-- the status of a vehicle by its links and its journey; one without links has no route
abbrev pub status_text : List ℕ → Journey → List ℕ
status_text links journey = status_name (told_status (nat_lt 0 (length links)) journey)

-- row r has the arrival, the status and the entries of a journey
abbrev pub journey_checks : ℕ → AgentRow → Journey → List Check
journey_checks r row journey =
    of_agent r column.ArrivalStep (same_if_any row.arrival journey.arrival)
    ∷ of_agent r column.Status (same_list row.status (status_text row.links journey))
    ∷ of_agent r column.EntrySteps (same_list row.entries journey.entries) ∷ []

abbrev pub journey_checks_at : ℕ × (AgentRow × Journey) → List Check
journey_checks_at numbered = journey_checks numbered.0 numbered.1.0 numbered.1.1

unfoldable pub all_journey_checks : List AgentRow → List Journey → List Check
all_journey_checks agents journeys =
    flat_map journey_checks_at (enumerate_from 0 (zip agents journeys))

-- ---- the rows of the table of link times

-- a check of a column of row r, from 0
abbrev pub of_time : ℕ → Column → Statement → Check
of_time r what statement =
    record { statement = statement; table = table.Times; line = r + 2; column = what }

-- row r has the visits and the time of its bucket of its link
abbrev pub time_checks : TimeTable → ℕ × TimeRow → List Check
time_checks times numbered =
    let l = numbered.0 / bucket_count times in
    let b = numbered.0 % bucket_count times in
    of_time numbered.0 column.Entered (same_number numbered.1.entered (entered_in times l b))
    ∷ of_time numbered.0 column.TravelSteps
    (same_number numbered.1.travel (time_at times l (b * times.bucket))) ∷ []

unfoldable pub all_time_checks : TimeTable → List TimeRow → List Check
all_time_checks times rows = flat_map (time_checks times) (enumerate_from 0 rows)

-- ---- all

-- the checks of an audit, in their order
abbrev pub checks_of :
    NetRows → List Trip → List AgentRow → List TimeRow → Plan → List Check
checks_of net trips agents times plan =
    let loading = loading_of net trips agents plan in
    all_trip_checks net trips agents ++ missing_checks trips agents
    ++ all_journey_checks agents (journeys_of loading)
    ++ all_time_checks (table_of loading plan.bucket) times

-- how a loading may have been made that is audited
pub record IsPlan (plan : Plan) : Type 0 where
  pub queue : IsQueue plan.queue
  pub delta_least : 1 ≤ plan.delta
  pub delta_most : plan.delta ≤ MOST_STEP
  pub horizon_least : 1 ≤ plan.horizon
  pub horizon_most : plan.horizon ≤ MOST_HORIZON
  pub bucket_least : 1 ≤ plan.bucket

-- the verdict of an audit
abbrev pub IsAudit :
    NetRows → List Trip → List AgentRow → List TimeRow → Plan → Verdict → Type 0
IsAudit net trips agents times plan v = IsVerdict (checks_of net trips agents times plan) v
