-- Small tables, computed from their bytes.
use Rattle.std.specs.Prelude.{ℕ, ◌≡◌, ◌++◌, List, [], ◌∷◌, Option, None, Some, Result, Ok, Err, ⊤}
use Rattle.std.specs.Prelude.{codes, map, refl}
use Rattle.std.specs.List.{range_with_len}
use Rattle.fixed_units.specs.declared.measure.LengthUnit.TheVariants.{Metre}
use Rattle.fixed_units.specs.declared.measure.SpeedUnit.TheVariants.{Kmh, Mph}
use Rattle.desk_io.specs.declared.desk.Table.{Table}
use Rattle.desk_io.specs.declared.desk.Table.TheVariants as table
use Rattle.row_reader.specs.Records.{records}
use Rattle.row_reader.specs.declared.faults.Code.{Code}
use Rattle.row_reader.specs.declared.faults.Code.TheVariants.{E1, E3, E4, E5, E6, E7, E8, E9, E10}
use Rattle.row_reader.specs.declared.faults.Code.TheVariants.{E11}
use Rattle.row_reader.specs.declared.faults.Column.{Column}
use Rattle.row_reader.specs.declared.faults.Column.TheVariants as column
use Rattle.row_reader.specs.declared.faults.Complaint.{Complaint}
use Rattle.row_reader.specs.declared.faults.TableFault.{TableFault}
use Rattle.row_reader.specs.Fields.{complain}
use Rattle.net_core.specs.declared.rates.Window.{Window}
use Rattle.net_core.specs.declared.rows.LinkRow.{LinkRow}
use Rattle.net_core.specs.declared.rows.NodeRow.{NodeRow}
use Rattle.net_core.specs.declared.rows.TurnRow.{TurnRow}
use Rattle.gmns_tables.specs.Links.{link_verdict}
use Rattle.gmns_tables.specs.Movements.{movement_verdict}
use Rattle.gmns_tables.specs.Net.{net_verdict}
use Rattle.gmns_tables.specs.Nodes.{node_verdict}
use Rattle.gmns_tables.specs.OnLiterals.{networks_on_literals}
use Rattle.gmns_tables.specs.Windows.{windows_by_step}
use Rattle.gmns_tables.specs.declared.windows.WindowsOf.TheVariants.{Link, Turn}
use Rattle.gmns_tables.specs.declared.with_windows.WithWindows.{WithWindows}
use Rattle.gmns_tables.specs.declared.link_table.TheConstants as link_number
use Rattle.gmns_tables.specs.declared.movement_table.TheConstants as turn_number
use Rattle.fixed_units.specs.declared.units.Units.{Units}

-- steps of six seconds, 125 vehicles on a kilometre of a lane, metres and kilometres per hour
metric : Units
metric = record { delta = 6; jam = 125; length = Metre; speed = Kmh }

-- a node, a link and a turn
node : ℕ → Option ℕ → NodeRow
node id zone = record { id = id; zone = zone }

link : ℕ → ℕ → ℕ → ℕ → ℕ → ℕ → ℕ → LinkRow
link id from to micrometres free storage rate =
    record {
      id = id;
      from = record { 0 = from };
      to = record { 0 = to };
      micrometres = micrometres;
      free = free;
      storage = storage;
      rate = rate;
    }

turn : ℕ → ℕ → ℕ → Option ℕ → TurnRow
turn a b penalty rate =
    record { a = record { 0 = a }; b = record { 0 = b }; penalty = penalty; rate = rate }

-- a kilometre in micrometres
kilometre : ℕ
kilometre = 1000000000

-- a row whose rate is the same in all steps
steadily : {R : Type 0} → R → WithWindows R
steadily row = record { row = row; windows = [] }

-- two links in a row: their tables and their rows
node_text : List ℕ
node_text = codes "node_id,zone_id\n1,1\n2,\n3,3\n"

link_text : List ℕ
link_text =
    codes "link_id,from_node_id,to_node_id,length,lanes,free_speed,capacity\n"
    ++ codes "10,1,2,1000,1,60,600\n20,2,3,1000,1,60,600\n"

nodes : List NodeRow
nodes = node 1 (Some 1) ∷ node 2 None ∷ node 3 (Some 3) ∷ []

links : List LinkRow
links =
    link 10 0 1 kilometre 10 125 600000000 ∷ link 20 1 2 kilometre 10 125 600000000 ∷ []

-- what a table of some bytes gives
nodes_of : List ℕ → Result (List NodeRow) TableFault
nodes_of text = node_verdict (records text)

links_of : List ℕ → Result (List (WithWindows LinkRow)) TableFault
links_of text = link_verdict nodes metric (records text)

turns_of : List ℕ → Result (List (WithWindows TurnRow)) TableFault
turns_of text = movement_verdict nodes links metric (records text)

-- the windows of a text, for a link of one lane, for one of two lanes, and for a turn
one_lane : List ℕ → Result (List Window) Complaint
one_lane text = windows_by_step (Link 1000) text

two_lanes : List ℕ → Result (List Window) Complaint
two_lanes text = windows_by_step (Link 2000) text

a_turn : List ℕ → Result (List Window) Complaint
a_turn text = windows_by_step Turn text

window : ℕ → Option ℕ → Window
window from rate = record { from = from; rate = rate }

-- why a text has no windows
not_the_form : Result (List Window) Complaint
not_the_form = Err (complain E4 column.CapacityByStep)

out_of_range : Result (List Window) Complaint
out_of_range = Err (complain E5 column.CapacityByStep)

-- a fault at a line
fault : {A : Type 0} → Table → ℕ → Code → Column → Result A TableFault
fault what line why place = Err (record { table = what; line = line; code = why; column = place })

unfoldable the_examples : ⊤
unfolding networks_on_literals metric node link turn kilometre steadily node_text link_text nodes
    links nodes_of links_of turns_of one_lane two_lanes a_turn window not_the_form out_of_range
    fault
the_examples = tt

-- ---- networks

two_links : net_verdict metric (records node_text) (records link_text) None
    ≡ Ok (record {
      nodes = nodes;
      links = links;
      turns = [];
      link_windows = [] ∷ [] ∷ [];
      turn_windows = [];
    })
unfolding the_examples
two_links = refl

-- the one turn with a penalty of seven seconds, which are two steps
a_penalty : net_verdict metric (records node_text) (records link_text)
    (Some (records (codes "node_id,ib_link_id,ob_link_id,penalty\n2,10,20,7\n")))
    ≡ Ok (record {
      nodes = nodes;
      links = links;
      turns = turn 0 1 2 None ∷ [];
      link_windows = [] ∷ [] ∷ [];
      turn_windows = [] ∷ [];
    })
unfolding the_examples
a_penalty = refl

-- of two tables with faults the first one's is told: nodes, then links, then movements
nodes_first : net_verdict metric (records (codes "node_id\nx\n")) (records (codes "link\n")) None
    ≡ fault table.Node 2 E4 column.NodeId
unfolding the_examples
nodes_first = refl

links_second : net_verdict metric (records node_text) (records (codes "link\n"))
    (Some (records (codes "turn\n")))
    ≡ fault table.Link 1 E1 column.LinkId
unfolding the_examples
links_second = refl

-- ---- lenient tables: a byte order mark, further columns, quoted fields, empty fields,
-- identifiers such as 1.0

lenient_nodes : nodes_of (239 ∷ 187 ∷ 191 ∷
    codes "name,node_id,osm_node_id,osm_highway,zone_id,ctrl_type,x_coord,y_coord\n"
    ++ codes ",0,171,,1,,-111.93,33.42\n,1.0,172,crossing,,signal,-111.92,33.42\n"
    ++ codes ",2,173,,3.0,,-111.91,33.42\n")
    ≡ Ok (node 0 (Some 1) ∷ node 1 None ∷ node 2 (Some 3) ∷ [])
unfolding the_examples
lenient_nodes = refl

-- the first link's time is 10.0049 steps, so 11; its capacity is 1800 vehicles per hour and lane
lenient_links : link_verdict (node 0 (Some 1) ∷ node 1 None ∷ node 2 (Some 3) ∷ []) metric (records
    (codes "name,link_id,from_node_id,to_node_id,dir_flag,length,lanes,free_speed,"
    ++ codes "capacity,geometry\n"
    ++ codes "\"Mill, North\",0,0,1,1,1000.49,,60,,\"LINESTRING (-111.93 33.42, -111.92 33.42)\"\n"
    ++ codes "Mill,1,1,2.0,1,1.0e3,1.0,60.0,600,\"LINESTRING (-111.92 33.42, -111.91 33.42)\"\n"))
    ≡ Ok (steadily (link 0 0 1 1000490000 11 125 1800000000)
    ∷ steadily (link 1 1 2 kilometre 10 125 600000000) ∷ [])
unfolding the_examples
lenient_links = refl

-- the required columns alone, in another order, of a link from a node to itself
by_default : links_of (codes "to_node_id,length,from_node_id,link_id\n1,1000,1,30\n")
    ≡ Ok (steadily (link 30 0 0 kilometre 12 125 1800000000) ∷ [])
unfolding the_examples
by_default = refl

-- the free speed by default is one in kilometres per hour, also where speeds are in miles per hour
by_default_in_miles : link_verdict nodes (record metric { speed = Mph })
    (records (codes "link_id,from_node_id,to_node_id,length,free_speed\n"
    ++ codes "30,1,2,1000,\n31,1,2,1000,50\n"))
    ≡ Ok (steadily (link 30 0 1 kilometre 12 125 1800000000)
    ∷ steadily (link 31 0 1 kilometre 8 125 1800000000) ∷ [])
unfolding the_examples
by_default_in_miles = refl

-- a zone field of 0 or -1 is no zone
no_zones : nodes_of (codes "zone_id,node_id\n0,1\n-1,2\n") ≡ Ok (node 1 None ∷ node 2 None ∷ [])
unfolding the_examples
no_zones = refl

-- a header alone lists no turn
no_turns : turns_of (codes "node_id,ib_link_id,ob_link_id\n") ≡ Ok []
unfolding the_examples
no_turns = refl

-- ---- first faults

-- a table without records lacks its first required column
no_node_table : nodes_of [] ≡ fault table.Node 1 E1 column.NodeId
unfolding the_examples
no_node_table = refl

line_ends_alone : turns_of (codes "\n") ≡ fault table.Movement 1 E1 column.NodeId
unfolding the_examples
line_ends_alone = refl

-- of the columns that are missing the first one in the order of the formats is told
missing_columns : links_of (codes "length,from_node_id\n") ≡ fault table.Link 1 E1 column.LinkId
unfolding the_examples
missing_columns = refl

-- identifiers are one by value
same_node : nodes_of (codes "node_id\n1\n2\n1.0\n") ≡ fault table.Node 4 E6 column.NodeId
unfolding the_examples
same_node = refl

bad_zone : nodes_of (codes "node_id,zone_id\n1,x\n") ≡ fault table.Node 2 E4 column.ZoneId
unfolding the_examples
bad_zone = refl

unknown_node : links_of (link_text ++ codes "30,9,3,1000,1,60,600\n")
    ≡ fault table.Link 4 E7 column.FromNodeId
unfolding the_examples
unknown_node = refl

-- of two faults in a line the first in the order of the formats is told, and not in that of the
-- table
two_in_a_line : links_of (codes "length,to_node_id,from_node_id,link_id\n,9,8,10\n")
    ≡ fault table.Link 2 E7 column.FromNodeId
unfolding the_examples
two_in_a_line = refl

-- of faults in two lines that of the first line is told
two_lines : links_of (codes "link_id,from_node_id,to_node_id,length\n10,1,2,\nx,1,2,5\n")
    ≡ fault table.Link 2 E3 column.Length
unfolding the_examples
two_lines = refl

-- a link that goes both ways, in capital letters
both_ways : links_of (codes "link_id,from_node_id,to_node_id,directed,length\n10,1,2,FALSE,x\n")
    ≡ fault table.Link 2 E10 column.Directed
unfolding the_examples
both_ways = refl

-- at 50 km/h a step is 83.333 m, and 10,000 of them are the most
longest : links_of (codes "link_id,from_node_id,to_node_id,length,lanes\n10,1,2,833333.333,0\n")
    ≡ Ok (steadily (link 10 0 1 833333333000 10000 1 0) ∷ [])
unfolding the_examples
longest = refl

-- a link that is too slow at the speed by default is refused before its capacity is looked at
too_slow : links_of (codes "link_id,from_node_id,to_node_id,length,capacity\n10,1,2,833333.334,x\n")
    ≡ fault table.Link 2 E11 column.FreeSpeed
unfolding the_examples
too_slow = refl

-- the first link of a turn ends at the turn's node, and the second begins there
wrong_way_in : turns_of (codes "mvmt_id,node_id,ib_link_id,ob_link_id\n1,2,20,20\n")
    ≡ fault table.Movement 2 E9 column.IbLinkId
unfolding the_examples
wrong_way_in = refl

wrong_way_out : turns_of (codes "mvmt_id,node_id,ib_link_id,ob_link_id\n1,2,10,10\n")
    ≡ fault table.Movement 2 E9 column.ObLinkId
unfolding the_examples
wrong_way_out = refl

unknown_link : turns_of (codes "node_id,ib_link_id,ob_link_id\n2,11,20\n")
    ≡ fault table.Movement 2 E8 column.IbLinkId
unfolding the_examples
unknown_link = refl

-- two links make one turn
same_turn : turns_of (codes "node_id,ib_link_id,ob_link_id\n2,10,20\n2.0,10.0,20\n")
    ≡ fault table.Movement 3 E6 column.ObLinkId
unfolding the_examples
same_turn = refl

-- ten hours are the longest penalty
longest_penalty :
    turns_of (codes "node_id,ib_link_id,ob_link_id,penalty,capacity\n2,10,20,36000,600\n")
    ≡ Ok (steadily (turn 0 1 6000 (Some 600000000)) ∷ [])
unfolding the_examples
longest_penalty = refl

too_long_penalty : turns_of (codes "node_id,ib_link_id,ob_link_id,penalty\n2,10,20,36000.001\n")
    ≡ fault table.Movement 2 E5 column.Penalty
unfolding the_examples
too_long_penalty = refl

-- ---- capacities in time windows

-- a signal that is red from step 20 on and green again from step 40 on
signal : one_lane (codes "0:600;20:0;40:600")
    ≡ Ok (window 0 (Some 600000000) ∷ window 20 (Some 0) ∷ window 40 (Some 600000000) ∷ [])
unfolding the_examples
signal = refl

-- a link's capacities are by lane
signal_on_two_lanes : two_lanes (codes "0:600;20:0")
    ≡ Ok (window 0 (Some 1200000000) ∷ window 20 (Some 0) ∷ [])
unfolding the_examples
signal_on_two_lanes = refl

-- a turn that opens at step 30, with no limit from there on
opens : a_turn (codes "0:0;30:none") ≡ Ok (window 0 (Some 0) ∷ window 30 None ∷ [])
unfolding the_examples
opens = refl

-- an empty field has no windows
same_in_all_steps : one_lane [] ≡ Ok []
unfolding the_examples
same_in_all_steps = refl

-- a link has a limit in all steps, and no limit has one spelling
none_for_a_link : one_lane (codes "0:none") ≡ not_the_form
unfolding the_examples
none_for_a_link = refl

none_in_capitals : a_turn (codes "0:None") ≡ not_the_form
unfolding the_examples
none_in_capitals = refl

-- a part that isn't there, or stands between blanks, isn't of the form
last_semicolon : one_lane (codes "0:600;") ≡ not_the_form
unfolding the_examples
last_semicolon = refl

blank_in_a_part : one_lane (codes "0:600; 20:0") ≡ not_the_form
unfolding the_examples
blank_in_a_part = refl

-- the form of all parts is checked before their numbers
form_first : one_lane (codes "0:1e13;x") ≡ not_the_form
unfolding the_examples
form_first = refl

-- the windows begin with step 0, and each after the one before
late_start : one_lane (codes "10:600") ≡ out_of_range
unfolding the_examples
late_start = refl

two_at_a_step : one_lane (codes "0:600;0:500") ≡ out_of_range
unfolding the_examples
two_at_a_step = refl

-- a step is digits, perhaps with zeros before them, and may be as large as 86,400
zeros_before : one_lane (codes "00:600") ≡ Ok (window 0 (Some 600000000) ∷ [])
unfolding the_examples
zeros_before = refl

last_step : one_lane (codes "0:0;86400:1")
    ≡ Ok (window 0 (Some 0) ∷ window 86400 (Some 1000000) ∷ [])
unfolding the_examples
last_step = refl

late_step : one_lane (codes "0:0;86401:1") ≡ out_of_range
unfolding the_examples
late_step = refl

long_step : one_lane (codes "0:0;99999999999999999999:1") ≡ out_of_range
unfolding the_examples
long_step = refl

-- a capacity below 0 is of the form
below_0 : one_lane (codes "0:-1") ≡ out_of_range
unfolding the_examples
below_0 = refl

-- sixty-four parts are the most
sixty_four_parts : List ℕ
sixty_four_parts =
    codes "0:1;1:1;2:1;3:1;4:1;5:1;6:1;7:1;8:1;9:1;10:1;11:1;12:1;13:1;14:1;15:1;16:1;17:1;18:1;"
    ++ codes "19:1;20:1;21:1;22:1;23:1;24:1;25:1;26:1;27:1;28:1;29:1;30:1;31:1;32:1;33:1;34:1;"
    ++ codes "35:1;36:1;37:1;38:1;39:1;40:1;41:1;42:1;43:1;44:1;45:1;46:1;47:1;48:1;49:1;50:1;"
    ++ codes "51:1;52:1;53:1;54:1;55:1;56:1;57:1;58:1;59:1;60:1;61:1;62:1;63:1"

sixty_four : a_turn sixty_four_parts
    ≡ Ok (map (λ step. window step (Some 1000000)) (range_with_len 0 64))
unfolding the_examples sixty_four_parts
sixty_four = refl

sixty_five : a_turn (sixty_four_parts ++ codes ";64:1") ≡ out_of_range
unfolding the_examples sixty_four_parts
sixty_five = refl

-- the column is the last one that is checked, and the capacity beside it is checked too
windows_of_a_link : links_of (codes "link_id,from_node_id,to_node_id,length,lanes,"
    ++ codes "capacity_by_step\n"
    ++ codes "30,1,2,1000,2,0:600;20:0\n")
    ≡ Ok (record {
      row = link 30 0 1 kilometre 12 250 3600000000;
      windows = window 0 (Some 1200000000) ∷ window 20 (Some 0) ∷ [];
    } ∷ [])
unfolding the_examples
windows_of_a_link = refl

late_start_of_a_link : links_of (codes "link_id,from_node_id,to_node_id,length,capacity_by_step\n"
    ++ codes "10,1,2,1000,\n20,2,3,1000,10:600\n")
    ≡ fault table.Link 3 E5 column.CapacityByStep
unfolding the_examples
late_start_of_a_link = refl

capacity_first : turns_of (codes "node_id,ib_link_id,ob_link_id,capacity_by_step,capacity\n"
    ++ codes "2,10,20,x,y\n")
    ≡ fault table.Movement 2 E4 column.Capacity
unfolding the_examples
capacity_first = refl

opens_at_30 : turns_of (codes "node_id,ib_link_id,ob_link_id,capacity_by_step\n"
    ++ codes "2,10,20,0:0;30:none\n")
    ≡ Ok (record {
      row = turn 0 1 0 None;
      windows = window 0 (Some 0) ∷ window 30 None ∷ [];
    } ∷ [])
unfolding the_examples
opens_at_30 = refl

-- ---- the numbers of the formats, in thousandths

default_lanes : link_number.DEFAULT_LANES ≡ 1000
default_lanes = refl

default_speed : link_number.DEFAULT_SPEED ≡ 50000
default_speed = refl

least_speed : link_number.LEAST_SPEED ≡ 1
least_speed = refl

default_capacity : link_number.DEFAULT_CAPACITY ≡ 1800000
default_capacity = refl

default_penalty : turn_number.DEFAULT_PENALTY ≡ 0
default_penalty = refl
