-- Worked cases of the reference, computed: the texts of runs whose numbers were worked out by
-- hand.
use Rattle.std.specs.Prelude.{◌≡◌, ℕ, true, List, [], ◌∷◌, ◌++◌, None, Some, codes, map}
use Rattle.pending_text.specs.Outs.{text_to}
use Rattle.std.specs.Prelude.{refl}
use Rattle.desk_io.specs.declared.desk.Output.TheVariants as output
use Rattle.desk_io.specs.declared.desk.Table.TheVariants as table
use Rattle.row_reader.specs.declared.faults.Column.TheVariants as column
use Rattle.net_core.specs.Network.{numbers_below}
use Rattle.net_core.specs.declared.rows.LinkRow.{LinkRow}
use Rattle.net_core.specs.declared.rows.NetRows.{NetRows}
use Rattle.dta_model.specs.Examples.{link, trip}
use Rattle.dta_model.specs.declared.queue.Queue.TheVariants as queue
use Rattle.dta_model.specs.declared.trip.DemandCell.{DemandCell}
use Rattle.dta_model.specs.declared.trip.Trip.{Trip}
use Rattle.trip_costs.specs.Timings.{Links, Trips}
use Rattle.trip_costs.specs.TripCosts.{by_links}
use Rattle.trip_costs.specs.declared.loading_costs.Costs.TheVariants as costs
use Rattle.route_flows.specs.Selection.{free_time}
use Rattle.dta_words.specs.Examples.{defaults}
use Rattle.dta_words.specs.declared.command.Command.{Command}
use Rattle.dta_words.specs.declared.command.Command.TheVariants as command
use Rattle.dta_words.specs.declared.command.Settings.{Settings}
use Rattle.start_table.specs.declared.rows.StartRow.{StartRow}
use Rattle.skims.specs.declared.time_rows.TimeRow.{TimeRow}
use Rattle.agent_table.specs.declared.rows.AgentRow.{AgentRow}
use Rattle.audit.specs.declared.verdict.Verdict.TheVariants as verdict
use Rattle.jobs.specs.Jobs.{JobRows, traffic_of}
use Rattle.reference.specs.Audits.{verdict_of}
use Rattle.reference.specs.OnLiterals.{counts_on_literals, iterations_on_literals}
use Rattle.reference.specs.OnLiterals.{others_on_literals, tables_on_literals, trips_on_literals}
use Rattle.reference.specs.Reference.{routes_until, watch_texts}
use Rattle.reference.specs.Routes.{all_since}
use Rattle.reference.specs.Search.{search}
use Rattle.reference.specs.Texts.{texts_of}

-- a run of one iteration up to step 60, by steps of six seconds
abbrev settings : Command → Settings
settings what = record (defaults what) { horizon = 60; period = 30 }

abbrev job : NetRows → List Trip → JobRows
job net trips = record {
  net = net;
  trips = trips;
  start = [];
  times = [];
  demand_cells = [];
  agents = [];
}

-- links between three nodes, from zone 1 to zone 3
abbrev net : List LinkRow → NetRows
net links = record {
  nodes = record { id = 1; zone = Some 1 } ∷ record { id = 2; zone = None }
      ∷ record { id = 3; zone = Some 3 } ∷ [];
  links = links;
  turns = [];
  link_windows = [];
  turn_windows = [];
}

-- the headers of the tables
abbrev agents : List ℕ
agents = codes
    "agent_id,o_zone_id,d_zone_id,departure_step,arrival_step,status,link_ids,entry_steps\n"

abbrev link_times : List ℕ
link_times = codes "link_id,from_step,to_step,entered,travel_steps,free_steps\n"

abbrev gaps : List ℕ
gaps = codes "iteration,route_steps,least_steps,gap_steps,gap_ppm\n"

-- ---- two links of ten steps, and three vehicles
abbrev two_links : NetRows
two_links = net (link 10 0 1 10 125 600000000 ∷ link 20 1 2 10 125 600000000 ∷ [])

abbrev three_vehicles : JobRows
three_vehicles = job two_links (trip 0 5 ∷ trip 1 15 ∷ trip 2 25 ∷ [])

in_a_line : texts_of (settings command.Assign) three_vehicles ≡
    text_to output.Agent (agents
    ++ codes "0,1,3,5,25,arrived,10;20,5;15\n1,1,3,15,35,arrived,10;20,15;25\n"
    ++ codes "2,1,3,25,45,arrived,10;20,25;35\n")
    ∷ text_to output.LinkTime (link_times
    ++ codes "10,0,50,3,10,10\n10,50,60,0,10,10\n20,0,50,3,10,10\n20,50,60,0,10,10\n")
    ∷ text_to output.Gap (gaps ++ codes "1,60,60,0,0\n")
    ∷ text_to output.Report (
    codes "nodes 3\nlinks 2\nvehicles 3\nunrouted 0\niterations 1\narrived 3\nrunning 0\n"
    ++ codes "waiting 0\nroute_steps 60\nleast_steps 60\ngap_steps 0\ngap_ppm 0\n")
    ∷ []
unfolding tables_on_literals trip
in_a_line = refl

-- with a watch, in two iterations, by the grid of a demonstration
abbrev watching : Settings
watching = record (settings (command.Demo 2)) { iterations = 2; watch = 10; plain = true }

watched : watch_texts watching (traffic_of three_vehicles) 1
    (routes_until watching (traffic_of three_vehicles) 2) ++ texts_of watching three_vehicles
    ≡ text_to output.Watch (codes "1,60,0,0,3,0,0,0,0\n")
    ∷ text_to output.Watch (codes "2,60,0,0,3,0,0,0,0\n")
    ∷ text_to output.Report (
    codes "nodes 3\nlinks 2\nvehicles 3\nunrouted 0\niterations 2\narrived 3\nrunning 0\n"
    ++ codes "waiting 0\nroute_steps 60\nleast_steps 60\ngap_steps 0\ngap_ppm 0\n")
    ∷ []
unfolding tables_on_literals trip
watched = refl

counted : texts_of (record (settings command.Counts) { link = Some 20 }) three_vehicles
    ≡ text_to output.Counts (codes "kind,first,second,from_step,to_step,vehicles\n"
    ++ codes "turn,10,20,0,50,3\nthrough,1,3,0,60,3\n")
    ∷ text_to output.Report (
    codes "nodes 3\nlinks 2\nvehicles 3\nunrouted 0\niterations 1\narrived 3\nrunning 0\n"
    ++ codes "waiting 0\nroute_steps 60\nleast_steps 60\ngap_steps 0\ngap_ppm 0\n")
    ∷ []
unfolding counts_on_literals trip
counted = refl

-- ---- a narrow second link and a way round it
abbrev two_ways : NetRows
two_ways = net (link 20 0 1 10 125 3600000000 ∷ link 30 1 2 10 125 600000000
    ∷ link 40 0 2 21 262 3600000000 ∷ [])

abbrev four_vehicles : JobRows
four_vehicles = job two_ways (map (λ v. trip v 0) (numbers_below 4))

abbrev round_times : List ℕ
round_times =
    codes "20,0,50,2,11,10\n20,50,60,0,10,10\n30,0,50,2,10,10\n30,50,60,0,10,10\n"
    ++ codes "40,0,50,2,21,21\n40,50,60,0,21,21\n"

-- all take the narrow link first, and two of them go round in the second iteration
a_way_round : texts_of (record (settings command.Assign) { iterations = 2 }) four_vehicles ≡
    text_to output.Agent (agents
    ++ codes "0,1,3,0,21,arrived,40,0\n1,1,3,0,20,arrived,20;30,0;10\n"
    ++ codes "2,1,3,0,21,arrived,40,0\n3,1,3,0,21,arrived,20;30,0;11\n")
    ∷ text_to output.LinkTime (link_times ++ round_times)
    ∷ text_to output.Gap (gaps ++ codes "1,88,84,4,47619\n2,84,84,0,0\n")
    ∷ text_to output.Report (
    codes "nodes 3\nlinks 3\nvehicles 4\nunrouted 0\niterations 2\narrived 4\nrunning 0\n"
    ++ codes "waiting 0\nroute_steps 84\nleast_steps 84\ngap_steps 0\ngap_ppm 0\n")
    ∷ []
unfolding tables_on_literals trip
a_way_round = refl

-- ---- the same from a start table with these routes
abbrev started : ℕ → List ℕ → StartRow
started agent links = record { agent = agent; origin = 1; destination = 3; links = links }

abbrev warm : JobRows
warm = record four_vehicles {
  start = started 0 (40 ∷ []) ∷ started 1 (20 ∷ 30 ∷ []) ∷ started 2 (40 ∷ [])
      ∷ started 3 (20 ∷ 30 ∷ []) ∷ [];
}

a_warm_start : texts_of (record (settings command.Assign) { start = true }) warm ≡
    text_to output.Agent (codes "agent_id,o_zone_id,d_zone_id,departure_step,arrival_step,"
    ++ codes "status,link_ids,entry_steps,route_iteration\n"
    ++ codes "0,1,3,0,21,arrived,40,0,0\n1,1,3,0,20,arrived,20;30,0;10,0\n"
    ++ codes "2,1,3,0,21,arrived,40,0,0\n3,1,3,0,21,arrived,20;30,0;11,0\n")
    ∷ text_to output.LinkTime (link_times ++ round_times)
    ∷ text_to output.Gap (gaps ++ codes "1,84,84,0,0\n")
    ∷ text_to output.Report (
    codes "nodes 3\nlinks 3\nvehicles 4\nunrouted 0\niterations 1\narrived 4\nrunning 0\n"
    ++ codes "waiting 0\nroute_steps 84\nleast_steps 84\ngap_steps 0\ngap_ppm 0\n")
    ∷ []
unfolding tables_on_literals trip
a_warm_start = refl

-- ---- by trips: two links, of which the first lets one vehicle on in a step, or a link that takes
-- one step more
abbrev by_trips : Settings
by_trips = record (settings command.Assign) {
  horizon = 20;
  period = 1;
  bucket = 10;
  iterations = 2;
  costs = costs.Trips;
}

abbrev two_roads : NetRows
two_roads = net (link 20 0 1 1 12 600000000 ∷ link 30 1 2 1 12 3600000000
    ∷ link 40 0 2 3 37 3600000000 ∷ [])

abbrev four_at_once : JobRows
four_at_once = job two_roads (map (λ v. trip v 0) (numbers_below 4))

abbrev origin_waits : List ℕ
origin_waits = codes "link_id,from_step,to_step,departed,wait_steps\n"

-- four vehicles wait 0 to 3 steps for the first link, two as the mean; the second one takes the
-- other link then. The link times tell no wait
waits_are_seen : texts_of by_trips four_at_once ≡
    text_to output.Agent (agents
    ++ codes "0,1,3,0,2,arrived,20;30,0;1\n1,1,3,0,3,arrived,40,0\n"
    ++ codes "2,1,3,0,3,arrived,20;30,1;2\n3,1,3,0,4,arrived,20;30,2;3\n")
    ∷ text_to output.LinkTime (link_times
    ++ codes "20,0,10,3,1,1\n20,10,20,0,1,1\n30,0,10,3,1,1\n30,10,20,0,1,1\n"
    ++ codes "40,0,10,1,3,3\n40,10,20,0,3,3\n")
    ∷ text_to output.OriginWait (origin_waits ++ codes "20,0,10,3,1\n40,0,10,1,0\n")
    ∷ text_to output.Gap (gaps ++ codes "1,16,12,4,333333\n2,12,12,0,0\n")
    ∷ text_to output.Report (
    codes "nodes 3\nlinks 3\nvehicles 4\nunrouted 0\niterations 2\narrived 4\nrunning 0\n"
    ++ codes "waiting 0\nroute_steps 12\nleast_steps 12\ngap_steps 0\ngap_ppm 0\n")
    ∷ []
unfolding trips_on_literals trip
waits_are_seen = refl

-- the same in a sweep, over half the demand and in one iteration
a_sweep_by_trips : texts_of
    (record by_trips { command = command.Sweep; iterations = 1; scales = 500 ∷ [] })
    (record (job two_roads []) {
      demand_cells = record { line = 2; origin = 1; destination = 3; volume = 4000; from = 0; to = 1 }
          ∷ [];
    }) ≡
    text_to output.Sweep (codes "scenario 0 scale 500\n" ++ agents
    ++ codes "0,1,3,0,2,arrived,20;30,0;1\n1,1,3,0,3,arrived,20;30,1;2\n" ++ link_times
    ++ codes "20,0,10,2,1,1\n20,10,20,0,1,1\n30,0,10,2,1,1\n30,10,20,0,1,1\n"
    ++ codes "40,0,10,0,3,3\n40,10,20,0,3,3\n" ++ origin_waits ++ codes "20,0,10,2,1\n" ++ gaps
    ++ codes "1,6,6,0,0\n"
    ++ codes "nodes 3\nlinks 3\nvehicles 2\nunrouted 0\niterations 1\narrived 2\nrunning 0\n"
    ++ codes "waiting 0\nroute_steps 6\nleast_steps 6\ngap_steps 0\ngap_ppm 0\n")
    ∷ text_to output.Report (codes "scenarios 1\n") ∷ []
unfolding trips_on_literals others_on_literals trip
a_sweep_by_trips = refl

-- of two walks of the same time the one with fewer links is chosen by trips, and the first in the
-- order of link numbers by link times
abbrev a_link_or_two : NetRows
a_link_or_two = net (link 10 0 1 1 12 1800000000 ∷ link 20 1 2 1 12 1800000000
    ∷ link 30 0 2 2 25 1800000000 ∷ [])

fewest_links : search (Trips (by_links (free_time a_link_or_two))) a_link_or_two 1 3 0
    ≡ Some (2 ∷ [])
unfolding iterations_on_literals
fewest_links = refl

first_numbers : search (Links (free_time a_link_or_two)) a_link_or_two 1 3 0 ≡ Some (0 ∷ 1 ∷ [])
unfolding iterations_on_literals
first_numbers = refl

-- since when: the first vehicle has its route from a start table, and the second one took its
-- chosen walk after the first iteration
since_by_trips : all_since costs.Trips two_roads
    (record { agent = 0; origin = 1; destination = 3; links = 20 ∷ 30 ∷ [] } ∷ [])
    four_at_once.trips 2 ≡ 0 ∷ 2 ∷ 1 ∷ 1 ∷ []
unfolding iterations_on_literals trip
since_by_trips = refl

-- ---- a jam: the second link has room for one vehicle
abbrev short_link : NetRows
short_link = net (link 10 0 1 10 125 3600000000 ∷ link 20 1 2 1 1 3600000000 ∷ [])

a_jam : texts_of (record (settings command.Assign) { queue = queue.Spatial })
    (job short_link (trip 0 0 ∷ trip 1 0 ∷ [])) ≡
    text_to output.Agent (agents
    ++ codes "0,1,3,0,11,arrived,10;20,0;10\n1,1,3,0,13,arrived,10;20,0;12\n")
    ∷ text_to output.LinkTime (link_times
    ++ codes "10,0,50,2,11,10\n10,50,60,0,10,10\n20,0,50,2,1,1\n20,50,60,0,1,1\n")
    ∷ text_to output.Gap (gaps ++ codes "1,24,24,0,0\n")
    ∷ text_to output.Report (
    codes "nodes 3\nlinks 2\nvehicles 2\nunrouted 0\niterations 1\narrived 2\nrunning 0\n"
    ++ codes "waiting 0\nroute_steps 24\nleast_steps 24\ngap_steps 0\ngap_ppm 0\n")
    ∷ []
unfolding tables_on_literals trip
a_jam = refl

-- ---- a backward wave: a second link of 80 metres with room for ten of twelve vehicles, on which
-- a space is free three steps after a vehicle has left
abbrev behind_a_wave : NetRows
behind_a_wave = net (link 10 0 1 10 125 3600000000
    ∷ record (link 20 1 2 1 10 3600000000) { micrometres = 80000000 } ∷ [])

a_wave : texts_of (record (settings command.Assign) { queue = queue.Newell 20 })
    (job behind_a_wave (map (λ v. trip v 0) (numbers_below 12))) ≡
    text_to output.Agent (agents
    ++ codes "0,1,3,0,11,arrived,10;20,0;10\n1,1,3,0,11,arrived,10;20,0;10\n"
    ++ codes "2,1,3,0,11,arrived,10;20,0;10\n3,1,3,0,11,arrived,10;20,0;10\n"
    ++ codes "4,1,3,0,11,arrived,10;20,0;10\n5,1,3,0,11,arrived,10;20,0;10\n"
    ++ codes "6,1,3,0,12,arrived,10;20,1;11\n7,1,3,0,12,arrived,10;20,1;11\n"
    ++ codes "8,1,3,0,12,arrived,10;20,1;11\n9,1,3,0,12,arrived,10;20,1;11\n"
    ++ codes "10,1,3,0,15,arrived,10;20,1;14\n11,1,3,0,15,arrived,10;20,1;14\n")
    ∷ text_to output.LinkTime (link_times
    ++ codes "10,0,50,12,11,10\n10,50,60,0,10,10\n20,0,50,12,1,1\n20,50,60,0,1,1\n")
    ∷ text_to output.Gap (gaps ++ codes "1,144,144,0,0\n")
    ∷ text_to output.Report (
    codes "nodes 3\nlinks 2\nvehicles 12\nunrouted 0\niterations 1\narrived 12\nrunning 0\n"
    ++ codes "waiting 0\nroute_steps 144\nleast_steps 144\ngap_steps 0\ngap_ppm 0\n")
    ∷ []
unfolding tables_on_literals trip
a_wave = refl

-- ---- the other commands over two links in a line
free_flow : texts_of (settings command.Freeflow) three_vehicles ≡
    text_to output.LinkTime (codes "link_id,free_steps,storage\n10,10,125\n20,10,125\n")
    ∷ text_to output.Report (codes "nodes 3\nlinks 2\n") ∷ []
unfolding others_on_literals
free_flow = refl

abbrev timed : ℕ → ℕ → TimeRow
timed entered travel = record { entered = entered; travel = travel }

-- the first link takes 45 steps up to step 50, and there is no walk back
a_skim : texts_of (record (settings command.Skim) { starts = 0 ∷ 50 ∷ [] })
    (record (job two_links [])
    { times = timed 3 45 ∷ timed 0 10 ∷ timed 0 10 ∷ timed 0 10 ∷ [] }) ≡
    text_to output.Skim (codes "o_zone_id,d_zone_id,start_step,least_steps\n"
    ++ codes "1,3,0,55\n1,3,50,20\n3,1,0,\n3,1,50,\n")
    ∷ text_to output.Report (codes "nodes 3\nlinks 2\nzones 2\nentries 4\n") ∷ []
unfolding others_on_literals
a_skim = refl

-- three vehicles over the whole period
abbrev row_of_three : DemandCell
row_of_three = record {
  line = 2;
  origin = 1;
  destination = 3;
  volume = 3000;
  from = 0;
  to = 30;
}

-- a third of three vehicles is one, and a thousandth none
a_sweep : texts_of (record (settings command.Sweep) { scales = 334 ∷ 1 ∷ [] })
    (record (job two_links []) { demand_cells = row_of_three ∷ [] }) ≡
    text_to output.Sweep (codes "scenario 0 scale 334\n" ++ agents
    ++ codes "0,1,3,15,35,arrived,10;20,15;25\n" ++ link_times
    ++ codes "10,0,50,1,10,10\n10,50,60,0,10,10\n20,0,50,1,10,10\n20,50,60,0,10,10\n" ++ gaps
    ++ codes "1,20,20,0,0\n"
    ++ codes "nodes 3\nlinks 2\nvehicles 1\nunrouted 0\niterations 1\narrived 1\nrunning 0\n"
    ++ codes "waiting 0\nroute_steps 20\nleast_steps 20\ngap_steps 0\ngap_ppm 0\n"
    ++ codes "scenario 1 scale 1\n" ++ agents ++ link_times
    ++ codes "10,0,50,0,10,10\n10,50,60,0,10,10\n20,0,50,0,10,10\n20,50,60,0,10,10\n" ++ gaps
    ++ codes "1,0,0,0,0\n"
    ++ codes "nodes 3\nlinks 2\nvehicles 0\nunrouted 0\niterations 1\narrived 0\nrunning 0\n"
    ++ codes "waiting 0\nroute_steps 0\nleast_steps 0\ngap_steps 0\ngap_ppm 0\n")
    ∷ text_to output.Report (codes "scenarios 2\n") ∷ []
unfolding others_on_literals trip
a_sweep = refl

-- ---- audits of what was assigned to two links in a line
abbrev told : ℕ → (departure second arrival : ℕ) → AgentRow
told agent departure second arrival = record {
  agent = agent;
  origin = 1;
  destination = 3;
  departure = departure;
  arrival = Some arrival;
  status = codes "arrived";
  links = 10 ∷ 20 ∷ [];
  entries = departure ∷ second ∷ [];
}

abbrev audited : ℕ → JobRows
audited arrival = record three_vehicles {
  agents = told 0 5 15 25 ∷ told 1 15 25 arrival ∷ told 2 25 35 45 ∷ [];
  times = timed 3 10 ∷ timed 0 10 ∷ timed 3 10 ∷ timed 0 10 ∷ [];
}

passes : verdict_of (settings command.Audit) (audited 35) ≡ verdict.Yes
unfolding others_on_literals trip
passes = refl

its_report : texts_of (settings command.Audit) (audited 35) ≡
    text_to output.Report (codes "audit ok\nvehicles 3\nlinks 2\n") ∷ []
unfolding others_on_literals trip
its_report = refl

-- the second vehicle is told to arrive a step later
another_arrival : verdict_of (settings command.Audit) (audited 36)
    ≡ verdict.No table.Start 3 column.ArrivalStep
unfolding others_on_literals trip
another_arrival = refl
