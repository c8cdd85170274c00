-- The parts of an audit: its loading, and its verdict.
use Rattle.std.proofs.Common.{◌≡◌, ℕ, ◌<◌, List, ◌++◌, length, ap, sym, ◌∙◌, subst, Option}
use Rattle.std.specs.Prelude.{All}
use Rattle.std.specs.List.Sorted.{IsNonDecreasingBy}
use Rattle.std.proofs.lemmas.List.{append_assoc, length-map}
use Rattle.desk_io.specs.declared.desk.Table.{Table}
use Rattle.row_reader.specs.declared.faults.Column.{Column}
use Rattle.net_core.specs.Network.{IsNet}
use Rattle.net_core.specs.declared.rows.LinkNo.{LinkNo}
use Rattle.net_core.specs.declared.rows.NetRows.{NetRows}
use Rattle.dta_model.specs.LinkTimes.{table_of}
use Rattle.dta_model.specs.Loading.{journeys_of}
use Rattle.dta_model.specs.Sound.{AreTrips, AreWalks, IsSound}
use Rattle.dta_model.specs.declared.plan.Plan.{Plan as LoadingPlan}
use Rattle.dta_model.specs.declared.trip.Trip.{Trip}
use Rattle.skims.specs.declared.time_rows.TimeRow.{TimeRow}
use Rattle.audit.specs.Audit.{all_journey_checks, all_time_checks, all_trip_checks, IsAudit, IsPlan, missing_checks, route_named, routes_named}
use Rattle.audit.specs.Checks.{Check, IsVerdict}
use Rattle.agent_table.specs.declared.rows.AgentRow.{AgentRow}
use Rattle.audit.specs.declared.plan.Plan.{Plan}
use Rattle.audit.specs.declared.verdict.Verdict.{Verdict}
use Rattle.audit.specs.declared.verdict.Verdict.TheVariants.{No, Yes}
use Rattle.audit.proofs.Routed.{rows_fit}
use Rattle.audit.proofs.Verdicts.{no_more, yes_more}

abbrev pub Routed : Type 0
Routed = List (Option (List LinkNo))

-- the loading over routes
abbrev pub loading_with : NetRows → List Trip → Routed → Plan → LoadingPlan
loading_with net trips routes plan =
    record { net = net; queue = plan.queue; delta = plan.delta; horizon = plan.horizon; trips = trips; routes = routes }

-- the checks of the rows before it is loaded, and those after
abbrev pub checks_before : NetRows → List Trip → List AgentRow → List Check
checks_before net trips agents = all_trip_checks net trips agents ++ missing_checks trips agents

abbrev pub checks_after : NetRows → List Trip → Plan → List AgentRow → Routed → List TimeRow → List Check
checks_after net trips plan agents routes times =
    all_journey_checks agents (journeys_of (loading_with net trips routes plan)) ++ all_time_checks (table_of (loading_with net trips routes plan) plan.bucket) times

pub is_sound : (net : NetRows) (trips : List Trip) (agents : List AgentRow) (plan : Plan) (routes : Routed) (v : Verdict) → IsNet net → AreTrips trips → IsNonDecreasingBy (λ trip. trip.departure) trips
    → All (λ trip. trip.departure < plan.horizon) trips → IsPlan plan → v ≡ Yes → IsVerdict (checks_before net trips agents) v → routes ≡ routes_named net agents → IsSound (loading_with net trips routes plan)
is_sound net trips agents plan routes v sound are rising early made e h is = record {
  net = sound;
  delta_least = made.delta_least;
  delta_most = made.delta_most;
  horizon_least = made.horizon_least;
  horizon_most = made.horizon_most;
  queue = made.queue;
  trips = are;
  rising = rising;
  early = early;
  each = ap length is ∙ length-map agents (λ (row : AgentRow). route_named net row.links) ∙ (rows_fit net trips agents v e h).0;
  walks = subst (λ rs. AreWalks net trips rs) (sym is) (rows_fit net trips agents v e h).1;
}

pub fails_before : (net : NetRows) (trips : List Trip) (agents : List AgentRow) (times : List TimeRow) (plan : Plan) (v : Verdict) (t : Table) (line : ℕ) (what : Column) → v ≡ No t line what
    → IsVerdict (checks_before net trips agents) v → IsAudit net trips agents times plan v
fails_before net trips agents times plan v t line what e h =
    let p = loading_with net trips (routes_named net agents) plan in
    let rows = all_journey_checks agents (journeys_of p) in
    no_more (checks_before net trips agents ++ rows) (all_time_checks (table_of p plan.bucket) times) v t line what e
    (no_more (checks_before net trips agents) rows v t line what e h)

pub passes_before : (net : NetRows) (trips : List Trip) (agents : List AgentRow) (times : List TimeRow) (plan : Plan) (routes : Routed) (v w : Verdict) → v ≡ Yes
    → IsVerdict (checks_before net trips agents) v → routes ≡ routes_named net agents → IsVerdict (checks_after net trips plan agents routes times) w → IsAudit net trips agents times plan w
passes_before net trips agents times plan routes v w e h is k =
    let p = loading_with net trips (routes_named net agents) plan in
    let rows = all_journey_checks agents (journeys_of p) in
    let last = all_time_checks (table_of p plan.bucket) times in
    let after : IsVerdict (rows ++ last) w = subst (λ rs. IsVerdict (checks_after net trips plan agents rs times) w) is k in
    subst (λ cs. IsVerdict cs w) (sym (append_assoc (checks_before net trips agents) rows last))
    (yes_more (checks_before net trips agents) (rows ++ last) v w e h after)
