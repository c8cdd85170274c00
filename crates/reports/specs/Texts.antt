-- The texts that go out, as functions of what they tell. Numbers are decimal, nothing is quoted,
-- and each line ends with a line feed.
use Rattle.std.specs.Prelude.{ℕ, zero, suc, ◌≡◌, ◌+◌, ◌*◌, ◌<◌, if◌then◌else◌, min, nat_lt}
use Rattle.std.specs.Prelude.{is_some, List, [], ◌∷◌, ◌++◌, length, map, All, IfSome, Option, None}
use Rattle.std.specs.Prelude.{Some, slice_get, slice_index, codes, decimal, Bool}
use Rattle.std.specs.List.{enumerate_from, flat_map, join_with_byte, zip}
use Rattle.desk_io.specs.declared.desk.Output.TheVariants as output
use Rattle.pending_text.specs.Outs.{OutText, text_to}
use Rattle.row_reader.specs.Names.{code_name, column_name, table_name}
use Rattle.net_core.specs.Network.{link_at, numbers_below}
use Rattle.net_core.specs.declared.rows.LinkNo.{LinkNo}
use Rattle.net_core.specs.declared.rows.LinkRow.{LinkRow}
use Rattle.net_core.specs.declared.rows.NetRows.{NetRows}
use Rattle.dta_model.specs.LinkTimes.{TimeTable, bucket_count, buckets_to, entered_in, place_in}
use Rattle.dta_model.specs.LinkTimes.{time_at}
use Rattle.dta_model.specs.declared.eight.Eight.{Eight}
use Rattle.dta_model.specs.declared.loaded.Journey.{Journey}
use Rattle.dta_model.specs.declared.trip.TheConstants.{MOST_TRIPS}
use Rattle.dta_model.specs.declared.trip.Trip.{Trip}
use Rattle.trip_costs.specs.OriginWaits.{WaitTable}
use Rattle.gap.specs.declared.line.GapLine.{GapLine}
use Rattle.reports.specs.declared.audited.Place.{Place}
use Rattle.reports.specs.declared.refusal.Refusal.{Refusal}
use Rattle.reports.specs.declared.refusal.TheConstants.{MOST_SKIM_ENTRIES, MOST_SWEEP_LINK_STEPS}
use Rattle.reports.specs.declared.refusal.Refusal.TheVariants as refusal
use Rattle.desk_io.specs.declared.transfers.TheConstants.{MOST_TABLE_BYTES}
use Rattle.dta_model.specs.declared.loading.TheConstants.{MOST_LINK_STEPS}
use Rattle.reports.specs.declared.status.AgentStatus.{AgentStatus}
use Rattle.reports.specs.declared.status.AgentStatus.TheVariants as status
use Rattle.reports.specs.declared.summary.Summary.{Summary}

-- ---- the texts of `freeflow`

-- the line of one link: its identifier, its free-flow steps and its storage
unfoldable pub free_link_line : LinkRow → List ℕ
free_link_line row =
    decimal row.id ++ codes "," ++ decimal row.free ++ codes "," ++ decimal row.storage
    ++ codes "\n"

unfoldable pub free_link_time_header : List ℕ
free_link_time_header = codes "link_id,free_steps,storage\n"

-- LinkTime: its header, and a line for each link in table order
unfoldable pub free_link_time_text : List LinkRow → List ℕ
free_link_time_text links = free_link_time_header ++ flat_map free_link_line links

-- Report: the numbers of nodes and links
unfoldable pub free_report_text : ℕ → ℕ → List ℕ
free_report_text nodes links =
    codes "nodes " ++ decimal nodes ++ codes "\nlinks " ++ decimal links ++ codes "\n"

-- both, LinkTime first
abbrev pub free_texts : NetRows → List OutText
free_texts net =
    text_to output.LinkTime (free_link_time_text net.links)
    ∷ text_to output.Report (free_report_text (length net.nodes) (length net.links)) ∷ []

-- ---- Agent

-- a vehicle: its trip, its route if it has one, and its journey
pub record Vehicle : Type 0 where
  pub trip : Trip
  pub route : Option (List LinkNo)
  pub journey : Journey

-- the vehicles of these trips, routes and journeys, in order
unfoldable pub vehicles : List Trip → List (Option (List LinkNo)) → List Journey → List Vehicle
vehicles (trip ∷ trips) (route ∷ routes) (journey ∷ journeys) =
    record { trip = trip; route = route; journey = journey } ∷ vehicles trips routes journeys
vehicles (trip ∷ trips) (route ∷ routes) [] = []
vehicles (trip ∷ trips) [] journeys = []
vehicles [] routes journeys = []

-- these links are the network's
abbrev pub AreLinksOf : NetRows → List LinkNo → Type 0
AreLinksOf net links = All (λ l. l.0 < length net.links) links

-- and so are those of each route
abbrev pub AreOnNet : NetRows → List (Option (List LinkNo)) → Type 0
AreOnNet net routes = All (λ route. IfSome route (AreLinksOf net)) routes

-- the status of a vehicle that has a route
abbrev pub routed_status : Journey → AgentStatus
routed_status journey =
    if is_some journey.arrival then status.Arrived
    else if nat_lt 0 (length journey.entries) then status.Running
    else status.Waiting

-- the status of a vehicle that has a route or not
abbrev pub told_status : Bool → Journey → AgentStatus
told_status routed journey = if routed then routed_status journey else status.Unrouted

abbrev pub status_name : AgentStatus → List ℕ
status_name status.Unrouted = codes "unrouted"
status_name status.Arrived = codes "arrived"
status_name status.Running = codes "running"
status_name status.Waiting = codes "waiting"

-- a number, or nothing where there is none
abbrev pub number_or_nothing : Option ℕ → List ℕ
number_or_nothing None = []
number_or_nothing (Some n) = decimal n

-- the byte `;`
abbrev pub semicolon : ℕ
semicolon = 59

-- numbers joined by `;`
abbrev pub joined : List ℕ → List ℕ
joined numbers = join_with_byte semicolon (map decimal numbers)

-- the part of such a list that a number at a place takes
abbrev pub item : ℕ → ℕ → List ℕ
item zero number = decimal number
item (suc place) number = semicolon ∷ decimal number

-- the identifiers of the links of a route
abbrev pub ids_of : NetRows → List LinkNo → List ℕ
ids_of net route = map (λ l. (link_at net l.0).id) route

-- the first six columns of a vehicle
unfoldable pub trip_columns : Trip → Option ℕ → AgentStatus → List ℕ
trip_columns trip arrival status =
    decimal trip.number ++ codes "," ++ decimal trip.origin ++ codes ","
    ++ decimal trip.destination ++ codes "," ++ decimal trip.departure ++ codes ","
    ++ number_or_nothing arrival ++ codes "," ++ status_name status ++ codes ","

-- and the two after them: the links of its route, and the steps in which it entered them
unfoldable pub way_columns : List ℕ → List ℕ → List ℕ
way_columns ids entries = joined ids ++ codes "," ++ joined entries

-- the columns of a vehicle. One without a route has no arrival, no links and no entries
unfoldable pub agent_columns : NetRows → Trip → Option (List LinkNo) → Journey → List ℕ
agent_columns net trip None journey = trip_columns trip None status.Unrouted ++ way_columns [] []
agent_columns net trip (Some route) journey =
    trip_columns trip journey.arrival (routed_status journey)
    ++ way_columns (ids_of net route) journey.entries

-- what ends the line of a vehicle. Where iterations are told, one more column comes first: that of
-- its route, and nothing for a vehicle without a route
abbrev pub line_end : Option (List LinkNo) → Option ℕ → List ℕ
line_end route None = codes "\n"
line_end None (Some iteration) = codes ",\n"
line_end (Some route) (Some iteration) = codes "," ++ decimal iteration ++ codes "\n"

-- the line of a vehicle, with an iteration if one is told
unfoldable pub agent_line :
    NetRows → Trip → Option (List LinkNo) → Journey → Option ℕ → List ℕ
agent_line net trip route journey iteration =
    agent_columns net trip route journey ++ line_end route iteration

-- the line of a vehicle with its trip, route and journey
abbrev pub vehicle_line : NetRows → Vehicle → List ℕ
vehicle_line net v = agent_line net v.trip v.route v.journey None

-- and of one with the iteration of its route
abbrev pub vehicle_line_from : NetRows → Vehicle × ℕ → List ℕ
vehicle_line_from net told =
    agent_line net told.0.trip told.0.route told.0.journey (Some told.1)

unfoldable pub agent_header : List ℕ
agent_header =
    codes "agent_id,o_zone_id,d_zone_id,departure_step,arrival_step,status,link_ids,entry_steps\n"

-- the header with the column of iterations
unfoldable pub since_header : List ℕ
since_header =
    codes "agent_id,o_zone_id,d_zone_id,departure_step,arrival_step,status,link_ids,entry_steps"
    ++ codes ",route_iteration\n"

-- Agent: its header, and a line for each vehicle in order
unfoldable pub agent_text :
    NetRows → List Trip → List (Option (List LinkNo)) → List Journey → List ℕ
agent_text net trips routes journeys =
    agent_header ++ flat_map (vehicle_line net) (vehicles trips routes journeys)

-- Agent with the iteration of each vehicle's route
unfoldable pub agent_text_from :
    NetRows → List Trip → List (Option (List LinkNo)) → List Journey → List ℕ → List ℕ
agent_text_from net trips routes journeys since =
    since_header
    ++ flat_map (vehicle_line_from net) (zip (vehicles trips routes journeys) since)

-- Agent with iterations where they are given
unfoldable pub agent_text_by :
    NetRows → List Trip → List (Option (List LinkNo)) → List Journey → Option (List ℕ) → List ℕ
agent_text_by net trips routes journeys None = agent_text net trips routes journeys
agent_text_by net trips routes journeys (Some since) =
    agent_text_from net trips routes journeys since

-- the header of either
abbrev pub agent_header_by : Option (List ℕ) → List ℕ
agent_header_by None = agent_header
agent_header_by (Some since) = since_header

-- the iteration that is told for a vehicle, where they are given
abbrev pub iteration_told : Option (List ℕ) → ℕ → Option ℕ
iteration_told None v = None
iteration_told (Some since) v = slice_get since v

-- ---- LinkTime of `assign`

-- the line of one bucket of a link: the link's identifier, the first step, the step after the last
-- one, the number of visits, the time, and the link's free-flow steps
unfoldable pub bucket_line : NetRows → TimeTable → ℕ → ℕ → List ℕ
bucket_line net times l b =
    decimal (link_at net l).id ++ codes "," ++ decimal (b * times.bucket) ++ codes ","
    ++ decimal (min ((b + 1) * times.bucket) times.horizon) ++ codes ","
    ++ decimal (entered_in times l b) ++ codes ","
    ++ decimal (time_at times l (b * times.bucket)) ++ codes ","
    ++ decimal (link_at net l).free ++ codes "\n"

-- the lines of a link
unfoldable pub link_lines : NetRows → TimeTable → ℕ → List ℕ
link_lines net times l = flat_map (bucket_line net times l) (numbers_below (bucket_count times))

unfoldable pub link_time_header : List ℕ
link_time_header = codes "link_id,from_step,to_step,entered,travel_steps,free_steps\n"

-- LinkTime: its header, and the lines of each link in table order
unfoldable pub link_time_text : NetRows → TimeTable → List ℕ
link_time_text net times =
    link_time_header ++ flat_map (link_lines net times) (numbers_below (length net.links))

-- ---- OriginWait of `assign`

-- how many vehicles belong to a link and a bucket, and their wait
abbrev pub departed_in : WaitTable → ℕ → ℕ → ℕ
departed_in w l b = slice_index w.departed (place_in (buckets_to w.bucket w.horizon) l b)

abbrev pub wait_in : WaitTable → ℕ → ℕ → ℕ
wait_in w l b = slice_index w.waits (place_in (buckets_to w.bucket w.horizon) l b)

-- the line of one bucket of a link: the link's identifier, the first step, the step after the last
-- one, the number of vehicles that belong to it, and their wait
unfoldable pub bucket_wait_line : NetRows → WaitTable → ℕ → ℕ → List ℕ
bucket_wait_line net w l b =
    decimal (link_at net l).id ++ codes "," ++ decimal (b * w.bucket) ++ codes ","
    ++ decimal (min ((b + 1) * w.bucket) w.horizon) ++ codes ","
    ++ decimal (departed_in w l b) ++ codes "," ++ decimal (wait_in w l b) ++ codes "\n"

-- a bucket to which no vehicle belongs has no line
unfoldable pub told_wait_line : NetRows → WaitTable → ℕ → ℕ → List ℕ
told_wait_line net w l b =
    if nat_lt 0 (departed_in w l b) then bucket_wait_line net w l b else []

-- the lines of a link
unfoldable pub link_wait_lines : NetRows → WaitTable → ℕ → List ℕ
link_wait_lines net w l =
    flat_map (told_wait_line net w l) (numbers_below (buckets_to w.bucket w.horizon))

unfoldable pub origin_wait_header : List ℕ
origin_wait_header = codes "link_id,from_step,to_step,departed,wait_steps\n"

-- OriginWait: its header, and the lines of each link in table order
unfoldable pub origin_wait_text : NetRows → WaitTable → List ℕ
origin_wait_text net w =
    origin_wait_header ++ flat_map (link_wait_lines net w) (numbers_below (length net.links))

-- ---- Gap

-- the line of an iteration
unfoldable pub gap_line : ℕ → GapLine → List ℕ
gap_line iteration line =
    decimal iteration ++ codes "," ++ decimal line.route_steps ++ codes ","
    ++ decimal line.least_steps ++ codes "," ++ decimal line.gap_steps ++ codes ","
    ++ decimal line.ppm ++ codes "\n"

-- the line of an iteration with its number
abbrev pub numbered_line : ℕ × GapLine → List ℕ
numbered_line numbered = gap_line numbered.0 numbered.1

unfoldable pub gap_header : List ℕ
gap_header = codes "iteration,route_steps,least_steps,gap_steps,gap_ppm\n"

-- Gap: its header, and a line for each iteration, from 1
unfoldable pub gap_text : List GapLine → List ℕ
gap_text lines = gap_header ++ flat_map numbered_line (enumerate_from 1 lines)

-- ---- Report of `assign` and `demo`

-- its counts, and the gap of the last iteration
unfoldable pub count_lines : Summary → List ℕ
count_lines s =
    codes "nodes " ++ decimal s.nodes ++ codes "\nlinks " ++ decimal s.links
    ++ codes "\nvehicles " ++ decimal s.vehicles ++ codes "\nunrouted " ++ decimal s.unrouted
    ++ codes "\niterations " ++ decimal s.iterations
    ++ codes "\narrived " ++ decimal s.arrived ++ codes "\nrunning " ++ decimal s.running
    ++ codes "\nwaiting " ++ decimal s.waiting ++ codes "\n"

unfoldable pub last_gap_lines : GapLine → List ℕ
last_gap_lines line =
    codes "route_steps " ++ decimal line.route_steps
    ++ codes "\nleast_steps " ++ decimal line.least_steps
    ++ codes "\ngap_steps " ++ decimal line.gap_steps
    ++ codes "\ngap_ppm " ++ decimal line.ppm ++ codes "\n"

unfoldable pub report_text : Summary → List ℕ
report_text s = count_lines s ++ last_gap_lines s.gap

-- ---- Report of `audit`

-- the line of the first place that differs: its table, its line and its column
unfoldable pub differs_line : Place → List ℕ
differs_line place =
    codes "audit: " ++ table_name place.table ++ codes " line " ++ decimal place.line
    ++ codes " " ++ column_name place.column ++ codes "\n"

-- the lines where no place differs: the numbers of vehicles and links
unfoldable pub audit_ok_text : ℕ → ℕ → List ℕ
audit_ok_text vehicle_count link_count =
    codes "audit ok\nvehicles " ++ decimal vehicle_count ++ codes "\nlinks "
    ++ decimal link_count ++ codes "\n"

-- either, for a network and its vehicles
unfoldable pub audit_text : NetRows → ℕ → Option Place → List ℕ
audit_text net vehicle_count None = audit_ok_text vehicle_count (length net.links)
audit_text net vehicle_count (Some place) = differs_line place

-- ---- Watch

-- the line of an iteration's state
unfoldable pub watch_line : ℕ → Eight → List ℕ
watch_line iteration eight =
    decimal iteration ++ codes "," ++ decimal eight.steps ++ codes ","
    ++ decimal eight.waiting ++ codes "," ++ decimal eight.running ++ codes ","
    ++ decimal eight.arrived
    ++ codes "," ++ decimal (slice_index eight.first 0)
    ++ codes "," ++ decimal (slice_index eight.first 1)
    ++ codes "," ++ decimal (slice_index eight.first 2)
    ++ codes "," ++ decimal (slice_index eight.first 3) ++ codes "\n"

-- ---- Report of a refusal

-- so many links over so many steps, above a limit
abbrev pub link_steps_text : ℕ → ℕ → ℕ → List ℕ
link_steps_text links steps limit =
    codes "size: links " ++ decimal links ++ codes " steps " ++ decimal steps
    ++ codes " limit " ++ decimal limit ++ codes "\n"

unfoldable pub refusal_line : Refusal → List ℕ
refusal_line refusal.Usage = codes "usage: dta COMMAND [options]\n"
refusal_line (refusal.Table fault) =
    table_name fault.table ++ codes " line " ++ decimal fault.line ++ codes ": "
    ++ code_name fault.code ++ codes " " ++ column_name fault.column ++ codes "\n"
refusal_line (refusal.Read t) = codes "read fault in " ++ table_name t ++ codes "\n"
refusal_line (refusal.LongTable t) =
    codes "size: table " ++ table_name t
    ++ codes " limit " ++ decimal MOST_TABLE_BYTES ++ codes "\n"
refusal_line (refusal.Cells links steps) = link_steps_text links steps MOST_LINK_STEPS
refusal_line (refusal.Vehicles line total) =
    codes "size: demand line " ++ decimal line ++ codes " vehicles " ++ decimal total
    ++ codes " limit " ++ decimal MOST_TRIPS ++ codes "\n"
refusal_line (refusal.SkimPairs number) =
    codes "size: skim " ++ decimal number ++ codes " limit " ++ decimal MOST_SKIM_ENTRIES
    ++ codes "\n"
refusal_line (refusal.SweepCells links steps) = link_steps_text links steps MOST_SWEEP_LINK_STEPS
