-- Worked cases of the definitions, computed: vehicles of all four statuses, without and with the
-- iterations of their routes, tables of link times and of waits at origins cut short by their
-- horizon, gaps, the report, that of an audit, a watch line and the refusals.
use Rattle.std.specs.Prelude.{◌≡◌, refl, codes, map, false, [], ◌∷◌, ◌++◌, List, Option}
use Rattle.std.specs.Prelude.{None, Some}
use Rattle.std.specs.Fmt.{digits}
use Rattle.desk_io.specs.declared.desk.Table.TheVariants as table
use Rattle.net_core.specs.Rows.{link_in}
use Rattle.net_core.specs.declared.rows.LinkNo.{LinkNo}
use Rattle.net_core.specs.declared.rows.LinkRow.{LinkRow}
use Rattle.net_core.specs.declared.rows.NetRows.{NetRows}
use Rattle.net_core.specs.declared.rows.NodeRow.{NodeRow}
use Rattle.dta_model.specs.LinkTimes.{TimeTable, entered_in, time_at}
use Rattle.dta_model.specs.declared.eight.Eight.{Eight}
use Rattle.dta_model.specs.declared.loaded.Journey.{Journey}
use Rattle.dta_model.specs.declared.trip.TheConstants.{MOST_TRIPS}
use Rattle.dta_model.specs.declared.trip.Trip.{Trip}
use Rattle.trip_costs.specs.OriginWaits.{WaitTable}
use Rattle.gap.specs.declared.line.GapLine.{GapLine}
use Rattle.row_reader.specs.declared.faults.Code.TheVariants as code
use Rattle.row_reader.specs.declared.faults.Column.TheVariants as column
use Rattle.reports.specs.declared.refusal.Refusal.TheVariants as refusal
use Rattle.desk_io.specs.declared.transfers.TheConstants.{MOST_TABLE_BYTES}
use Rattle.dta_model.specs.declared.loading.TheConstants.{MOST_LINK_STEPS}
use Rattle.reports.specs.declared.summary.Summary.{Summary}
use Rattle.reports.specs.Texts.{agent_columns, agent_header, since_header, agent_line}
use Rattle.reports.specs.Texts.{agent_text, agent_text_from, audit_ok_text, audit_text}
use Rattle.reports.specs.Texts.{bucket_line, count_lines, differs_line}
use Rattle.reports.specs.Texts.{free_link_line, free_link_time_header, free_link_time_text}
use Rattle.reports.specs.Texts.{free_report_text, gap_header, gap_line, gap_text, last_gap_lines}
use Rattle.reports.specs.Texts.{link_lines, link_time_header, link_time_text, refusal_line}
use Rattle.reports.specs.Texts.{bucket_wait_line, link_wait_lines, origin_wait_header}
use Rattle.reports.specs.Texts.{origin_wait_text, told_wait_line}
use Rattle.reports.specs.Texts.{report_text, trip_columns, vehicles, watch_line, way_columns}
use Rattle.reports.specs.Watch.{AreWatchSteps, multiples, rises_from}

-- the links of 1000 m, one lane, 60 km/h and 600 vehicles per hour: ten steps, room for 125
-- vehicles
abbrev two_links : List LinkRow
two_links =
    record {
      id = 10;
      from = record { 0 = 0 };
      to = record { 0 = 1 };
      micrometres = 1000000000;
      free = 10;
      storage = 125;
      rate = 600000000;
    }
    ∷ record {
      id = 20;
      from = record { 0 = 1 };
      to = record { 0 = 2 };
      micrometres = 1000000000;
      free = 10;
      storage = 125;
      rate = 600000000;
    }
    ∷ []

abbrev three_nodes : List NodeRow
three_nodes =
    record { id = 1; zone = Some 1 } ∷ record { id = 2; zone = None }
    ∷ record { id = 3; zone = Some 3 } ∷ []

abbrev pub the_network : NetRows
the_network = record
    { nodes = three_nodes; links = two_links; turns = []; link_windows = []; turn_windows = [] }

free-link-times : free_link_time_text two_links
    ≡ codes "link_id,free_steps,storage\n10,10,125\n20,10,125\n"
unfolding free_link_time_text free_link_time_header free_link_line digits
free-link-times = refl

-- a table without links has its header alone
no-links : free_link_time_text [] ≡ codes "link_id,free_steps,storage\n"
unfolding free_link_time_text free_link_time_header
no-links = refl

three-nodes : free_report_text 3 2 ≡ codes "nodes 3\nlinks 2\n"
unfolding free_report_text digits
three-nodes = refl

-- ---- vehicles

abbrev pub both_links : Option (List LinkNo)
both_links = Some (record { 0 = 0 } ∷ record { 0 = 1 } ∷ [])

abbrev pub four_trips : List Trip
four_trips =
    record { number = 0; origin = 1; destination = 3; departure = 0 }
    ∷ record { number = 1; origin = 1; destination = 3; departure = 6 }
    ∷ record { number = 2; origin = 1; destination = 3; departure = 13 }
    ∷ record { number = 3; origin = 3; destination = 1; departure = 19 } ∷ []

-- the first has arrived, the second is on its first link, the third waits, and the fourth has no
-- route
abbrev pub four_routes : List (Option (List LinkNo))
four_routes = both_links ∷ both_links ∷ both_links ∷ None ∷ []

abbrev pub four_journeys : List Journey
four_journeys =
    record { entries = 0 ∷ 10 ∷ []; arrival = Some 20 }
    ∷ record { entries = 6 ∷ []; arrival = None }
    ∷ record { entries = []; arrival = None } ∷ record { entries = []; arrival = None } ∷ []

four-vehicles : agent_text the_network four_trips four_routes four_journeys
    ≡ codes "agent_id,o_zone_id,d_zone_id,departure_step,arrival_step,status,link_ids,"
    ++ codes "entry_steps\n0,1,3,0,20,arrived,10;20,0;10\n1,1,3,6,,running,10;20,6\n"
    ++ codes "2,1,3,13,,waiting,10;20,\n3,3,1,19,,unrouted,,\n"
unfolding agent_text agent_header vehicles agent_line agent_columns trip_columns way_columns link_in
    digits
four-vehicles = refl

-- the first has the route of a start table, and the others those of iterations. That of the
-- fourth, which has no route, isn't told
four-iterations : agent_text_from the_network four_trips four_routes four_journeys
    (0 ∷ 2 ∷ 1 ∷ 7 ∷ [])
    ≡ codes "agent_id,o_zone_id,d_zone_id,departure_step,arrival_step,status,link_ids,"
    ++ codes "entry_steps,route_iteration\n0,1,3,0,20,arrived,10;20,0;10,0\n"
    ++ codes "1,1,3,6,,running,10;20,6,2\n2,1,3,13,,waiting,10;20,,1\n3,3,1,19,,unrouted,,,\n"
unfolding agent_text_from since_header vehicles agent_line agent_columns trip_columns
    way_columns link_in digits
four-iterations = refl

-- ---- link times

-- five steps in buckets of two: the last bucket is cut short
abbrev some_times : TimeTable
some_times = record {
  bucket = 2;
  horizon = 5;
  free = 10 ∷ 10 ∷ [];
  times = 10 ∷ 11 ∷ 12 ∷ 10 ∷ 10 ∷ 13 ∷ [];
  entered = 0 ∷ 3 ∷ 1 ∷ 0 ∷ 0 ∷ 2 ∷ [];
}

link-times : link_time_text the_network some_times
    ≡ codes "link_id,from_step,to_step,entered,travel_steps,free_steps\n"
    ++ codes "10,0,2,0,10,10\n10,2,4,3,11,10\n10,4,5,1,12,10\n"
    ++ codes "20,0,2,0,10,10\n20,2,4,0,10,10\n20,4,5,2,13,10\n"
unfolding link_time_text link_time_header link_lines bucket_line entered_in time_at link_in digits
link-times = refl

-- ---- waits at origins

-- the same buckets: two vehicles begin with the first link at steps 2 or 3, and three with the
-- second one at step 4
abbrev some_waits : WaitTable
some_waits = record {
  bucket = 2;
  horizon = 5;
  waits = 0 ∷ 7 ∷ 0 ∷ 0 ∷ 0 ∷ 1 ∷ [];
  departed = 0 ∷ 2 ∷ 0 ∷ 0 ∷ 0 ∷ 3 ∷ [];
}

origin-waits : origin_wait_text the_network some_waits
    ≡ codes "link_id,from_step,to_step,departed,wait_steps\n10,2,4,2,7\n20,4,5,3,1\n"
unfolding origin_wait_text origin_wait_header link_wait_lines told_wait_line bucket_wait_line
    link_in digits
origin-waits = refl

-- without vehicles the text is its header
abbrev nobody_waits : WaitTable
nobody_waits = record some_waits {
  waits = 0 ∷ 0 ∷ 0 ∷ 0 ∷ 0 ∷ 0 ∷ [];
  departed = 0 ∷ 0 ∷ 0 ∷ 0 ∷ 0 ∷ 0 ∷ [];
}

nobody-departs : origin_wait_text the_network nobody_waits
    ≡ codes "link_id,from_step,to_step,departed,wait_steps\n"
unfolding origin_wait_text origin_wait_header link_wait_lines told_wait_line
nobody-departs = refl

-- ---- gaps

abbrev first_gap : GapLine
first_gap = record { route_steps = 88; least_steps = 84; gap_steps = 4; ppm = 47619 }

abbrev second_gap : GapLine
second_gap = record { route_steps = 84; least_steps = 84; gap_steps = 0; ppm = 0 }

two-iterations : gap_text (first_gap ∷ second_gap ∷ [])
    ≡ codes "iteration,route_steps,least_steps,gap_steps,gap_ppm\n1,88,84,4,47619\n2,84,84,0,0\n"
unfolding gap_text gap_header gap_line digits
two-iterations = refl

-- ---- the report

abbrev the_summary : Summary
the_summary = record {
  nodes = 3;
  links = 3;
  vehicles = 4;
  unrouted = 0;
  iterations = 2;
  arrived = 4;
  running = 0;
  waiting = 0;
  gap = second_gap;
}

twelve-lines : report_text the_summary
    ≡ codes "nodes 3\nlinks 3\nvehicles 4\nunrouted 0\niterations 2\narrived 4\nrunning 0\n"
    ++ codes "waiting 0\nroute_steps 84\nleast_steps 84\ngap_steps 0\ngap_ppm 0\n"
unfolding report_text count_lines last_gap_lines digits
twelve-lines = refl

-- ---- the report of an audit

a-step-differs : audit_text the_network 3
    (Some (record { table = table.Start; line = 3; column = column.ArrivalStep }))
    ≡ codes "audit: start line 3 arrival_step\n"
unfolding audit_text differs_line digits
a-step-differs = refl

a-row-is-missing : audit_text the_network 3
    (Some (record { table = table.Start; line = 4; column = column.NoColumn }))
    ≡ codes "audit: start line 4 -\n"
unfolding audit_text differs_line digits
a-row-is-missing = refl

nothing-differs : audit_text the_network 3 None ≡ codes "audit ok\nvehicles 3\nlinks 2\n"
unfolding audit_text audit_ok_text digits
nothing-differs = refl

-- ---- watch lines

abbrev a_state : Eight
a_state = record { steps = 1; waiting = 0; running = 1; arrived = 0; first = 1 ∷ 0 ∷ 0 ∷ 0 ∷ [] }

one-state : watch_line 1 a_state ≡ codes "1,1,0,1,0,1,0,0,0\n"
unfolding watch_line digits
one-state = refl

-- a loading of 25 steps that is watched every 10: the lines of steps 10, 20 and 25 meet the rule,
-- and so does the last line alone
every-ten : AreWatchSteps 10 25 (10 ∷ 20 ∷ 25 ∷ [])
every-ten = record { before = 10 ∷ 20 ∷ []; ends = refl; rising = refl; apart = refl }

the-last-alone : AreWatchSteps 10 25 (25 ∷ [])
the-last-alone = record { before = []; ends = refl; rising = refl; apart = refl }

-- a line may come late, as that of step 13 for 10
a-late-line : AreWatchSteps 10 25 (13 ∷ 20 ∷ 25 ∷ [])
a-late-line = record { before = 13 ∷ 20 ∷ []; ends = refl; rising = refl; apart = refl }

-- that of step 15 has no more multiples than that of step 10, nor that of step 5 than 0, and a
-- step isn't told twice
too-soon-after-another : rises_from 0 (map (multiples 10) (10 ∷ 15 ∷ [])) ≡ false
too-soon-after-another = refl

too-soon-at-first : rises_from 0 (map (multiples 10) (5 ∷ 10 ∷ [])) ≡ false
too-soon-at-first = refl

told-twice : rises_from 0 (10 ∷ 25 ∷ 25 ∷ []) ≡ false
told-twice = refl

-- ---- refusals

bad-words : refusal_line refusal.Usage ≡ codes "usage: dta COMMAND [options]\n"
unfolding refusal_line
bad-words = refl

refused-links : refusal_line (refusal.Table
    (record { table = table.Link; line = 3; code = code.E7; column = column.FromNodeId }))
    ≡ codes "link line 3: E7 UnknownNode from_node_id\n"
unfolding refusal_line digits
refused-links = refl

refused-nodes : refusal_line (refusal.Table
    (record { table = table.Node; line = 12; code = code.E2; column = column.NoColumn }))
    ≡ codes "node line 12: E2 BadRecord -\n"
unfolding refusal_line digits
refused-nodes = refl

unread-nodes : refusal_line (refusal.Read table.Node) ≡ codes "read fault in node\n"
unfolding refusal_line
unread-nodes = refl

long-links : refusal_line (refusal.LongTable table.Link)
    ≡ codes "size: table link limit 268435456\n"
unfolding refusal_line digits
long-links = refl

too-many-link-steps : refusal_line (refusal.Cells 41605 1613)
    ≡ codes "size: links 41605 steps 1613 limit 67108864\n"
unfolding refusal_line digits
too-many-link-steps = refl

many-vehicles : refusal_line (refusal.Vehicles 2 2000001)
    ≡ codes "size: demand line 2 vehicles 2000001 limit 2000000\n"
unfolding refusal_line digits
many-vehicles = refl

large-skim : refusal_line (refusal.SkimPairs 16777217)
    ≡ codes "size: skim 16777217 limit 16777216\n"
unfolding refusal_line digits
large-skim = refl

large-sweep : refusal_line (refusal.SweepCells 40000 420)
    ≡ codes "size: links 40000 steps 420 limit 16777216\n"
unfolding refusal_line digits
large-sweep = refl

-- the limits: bytes of a table, links times steps, and vehicles
most-bytes : MOST_TABLE_BYTES ≡ 268435456
most-bytes = refl

most-link-steps : MOST_LINK_STEPS ≡ 67108864
most-link-steps = refl

most-vehicles : MOST_TRIPS ≡ 2000000
most-vehicles = refl
