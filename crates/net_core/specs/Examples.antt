-- Small worked cases of the definitions.
use Rattle.std.specs.Prelude.{◌≡◌, ◌∷◌, ℕ, List, [], true, false, Option, None, Some, refl}
use Rattle.net_core.specs.Ids.{place_of, place_of_pair}
use Rattle.net_core.specs.Network.{free_turn, ins, is_named, outs, turn, turn_at, zone_number}
use Rattle.net_core.specs.Network.{zone_of, zones}
use Rattle.net_core.specs.Rows.{link_in, link_named, node_named}
use Rattle.net_core.specs.declared.rows.LinkRow.{LinkRow}
use Rattle.net_core.specs.Network.{link_windows, link_rates, turn_rates, turn_windows}
use Rattle.net_core.specs.Rates.{last_begun, rate_in, steady}
use Rattle.net_core.specs.declared.rates.Window.{Window}
use Rattle.net_core.specs.declared.rows.NetRows.{NetRows}
use Rattle.net_core.specs.declared.rows.NodeRow.{NodeRow}
use Rattle.net_core.specs.declared.rows.TheConstants.{MOST_NODES, MOST_LINKS, MOST_TURNS}
use Rattle.net_core.specs.declared.rows.TurnRow.{TurnRow}

-- ---- rows
abbrev pub node : ℕ → Option ℕ → NodeRow
node id zone = record { id = id; zone = zone }

-- a link with 10 free-flow steps, room for 125 vehicles, and 600 vehicles an hour
abbrev pub link : ℕ → ℕ → ℕ → LinkRow
link id from to = record {
  id = id;
  from = record { 0 = from };
  to = record { 0 = to };
  micrometres = 1000000000;
  free = 10;
  storage = 125;
  rate = 600000000;
}

-- a turn of 2 steps and 300 vehicles an hour
abbrev slow : ℕ → ℕ → TurnRow
slow a b = record { a = record { 0 = a }; b = record { 0 = b }; penalty = 2; rate = Some 300000000 }

-- ---- two links in a row
abbrev in_a_row : NetRows
in_a_row = record {
  nodes = node 1 (Some 1) ∷ node 2 None ∷ node 3 (Some 3) ∷ [];
  links = link 10 0 1 ∷ link 20 1 2 ∷ [];
  turns = [];
  link_windows = [];
  turn_windows = [];
}

-- identifiers stand for places
second_node : node_named in_a_row.nodes 2 ≡ Some (record { 0 = 1 })
second_node = refl

second_link : link_named in_a_row.links 20 ≡ Some (record { 0 = 1 })
second_link = refl

unknown_link : link_named in_a_row.links 30 ≡ None
unknown_link = refl

middle_node : (ins in_a_row 1 ≡ 0 ∷ []) × (outs in_a_row 1 ≡ 1 ∷ [])
unfolding ins outs link_in
middle_node = (refl, refl)

-- zones 1 and 3 are numbered 0 and 1, and node 2 has none
two_zones : zones in_a_row.nodes ≡ 1 ∷ 3 ∷ []
unfolding zones
two_zones = refl

third_zone : (zone_number in_a_row 3 ≡ Some 1) × (zone_number in_a_row 2 ≡ None)
unfolding zones
third_zone = (refl, refl)

zones_of_nodes :
    (zone_of in_a_row 0 ≡ Some 0)
    × (zone_of in_a_row 1 ≡ None)
    × (zone_of in_a_row 2 ≡ Some 1)
unfolding zones
zones_of_nodes = (refl, refl, refl)

-- one may go on from the first link to the second, and not back
onward : (turn in_a_row 0 1 ≡ Some free_turn) × (turn in_a_row 1 0 ≡ None)
unfolding turn turn_at is_named link_in
onward = (refl, refl)

-- ---- two links merge
merge : NetRows
merge = record {
  nodes = node 1 (Some 1) ∷ node 2 (Some 2) ∷ node 3 None ∷ node 4 (Some 4) ∷ [];
  links = link 11 0 2 ∷ link 12 1 2 ∷ link 13 2 3 ∷ [];
  turns = [];
  link_windows = [];
  turn_windows = [];
}

merge_node : (ins merge 2 ≡ 0 ∷ 1 ∷ []) × (outs merge 2 ≡ 2 ∷ [])
unfolding merge ins outs link_in
merge_node = (refl, refl)

merge_turns :
    (turn merge 0 2 ≡ Some free_turn)
    × (turn merge 1 2 ≡ Some free_turn)
    × (turn merge 0 1 ≡ None)
unfolding merge turn turn_at is_named link_in
merge_turns = (refl, refl, refl)

-- ---- a narrow link and a way round
way_round : NetRows
way_round = record {
  nodes = node 1 (Some 1) ∷ node 2 None ∷ node 3 (Some 3) ∷ [];
  links = link 20 0 1 ∷ link 30 1 2 ∷ link 40 0 2 ∷ [];
  turns = [];
  link_windows = [];
  turn_windows = [];
}

two_ways_out : outs way_round 0 ≡ 0 ∷ 2 ∷ []
unfolding way_round outs link_in
two_ways_out = refl

two_ways_in : ins way_round 2 ≡ 1 ∷ 2 ∷ []
unfolding way_round ins link_in
two_ways_in = refl

way_round_turns : (turn way_round 0 1 ≡ Some free_turn) × (turn way_round 0 2 ≡ None)
unfolding way_round turn turn_at is_named link_in
way_round_turns = (refl, refl)

-- ---- a loop that pays: link 30 may follow itself
loop : NetRows
loop = record {
  nodes = node 1 (Some 1) ∷ node 2 None ∷ node 3 (Some 3) ∷ [];
  links = link 10 0 1 ∷ link 20 1 2 ∷ link 30 1 1 ∷ [];
  turns = [];
  link_windows = [];
  turn_windows = [];
}

loop_node : (ins loop 1 ≡ 0 ∷ 2 ∷ []) × (outs loop 1 ≡ 1 ∷ 2 ∷ [])
unfolding loop ins outs link_in
loop_node = (refl, refl)

loop_turns :
    (turn loop 0 2 ≡ Some free_turn)
    × (turn loop 2 2 ≡ Some free_turn)
    × (turn loop 2 1 ≡ Some free_turn)
unfolding loop turn turn_at is_named link_in
loop_turns = (refl, refl, refl)

-- ---- listed turns: at a node that they name, no other turn is allowed
listed_loop : NetRows
listed_loop = record {
  nodes = loop.nodes;
  links = loop.links;
  turns = slow 0 2 ∷ slow 2 1 ∷ [];
  link_windows = [];
  turn_windows = [];
}

named_nodes : (is_named listed_loop 1 ≡ true) × (is_named listed_loop 2 ≡ false)
unfolding listed_loop loop is_named link_in
named_nodes = (refl, refl)

listed_turn : turn listed_loop 0 2 ≡ Some (record { penalty = 2; rate = Some 300000000 })
unfolding listed_loop loop turn turn_at is_named link_in
listed_turn = refl

unlisted_turns : (turn listed_loop 0 1 ≡ None) × (turn listed_loop 2 2 ≡ None)
unfolding listed_loop loop turn turn_at is_named link_in
unlisted_turns = (refl, refl)

-- the turns at another node stay free
named_elsewhere : NetRows
named_elsewhere = record {
  nodes = merge.nodes;
  links = link 11 0 2 ∷ link 12 2 3 ∷ link 13 3 1 ∷ [];
  turns = slow 0 1 ∷ [];
  link_windows = [];
  turn_windows = [];
}

free_elsewhere :
    (turn named_elsewhere 0 1 ≡ Some (record { penalty = 2; rate = Some 300000000 }))
    × (turn named_elsewhere 1 2 ≡ Some free_turn)
unfolding named_elsewhere merge turn turn_at is_named link_in
free_elsewhere = (refl, refl)

-- ---- parallel links, two nodes of one zone, and zones in the order of their first appearance
parallel : NetRows
parallel = record {
  nodes = node 1 (Some 7) ∷ node 2 (Some 5) ∷ node 3 (Some 7) ∷ [];
  links = link 50 0 1 ∷ link 40 0 1 ∷ [];
  turns = [];
  link_windows = [];
  turn_windows = [];
}

-- in the order of the table, not of the identifiers
parallel_links : (outs parallel 0 ≡ 0 ∷ 1 ∷ []) × (ins parallel 1 ≡ 0 ∷ 1 ∷ [])
unfolding parallel ins outs link_in
parallel_links = (refl, refl)

shared_zone :
    (zones parallel.nodes ≡ 7 ∷ 5 ∷ [])
    × (zone_of parallel 0 ≡ Some 0)
    × (zone_of parallel 1 ≡ Some 1)
    × (zone_of parallel 2 ≡ Some 0)
unfolding parallel zones
shared_zone = (refl, refl, refl, refl)

-- ---- places
pair_places :
    (place_of_pair ((1, 2) ∷ (2, 1) ∷ []) 2 1 ≡ Some 1)
    × (place_of_pair ((1, 2) ∷ (2, 1) ∷ []) 1 1 ≡ None)
pair_places = (refl, refl)

identifier_place : place_of (20 ∷ 10 ∷ []) 10 ≡ Some 1
identifier_place = refl

-- ---- rates that change with the steps
open_and_shut : List Window
open_and_shut =
    record { from = 0; rate = Some 600 } ∷ record { from = 20; rate = Some 0 }
    ∷ record { from = 40; rate = Some 600 } ∷ []

-- a window holds from its step on, until the next begins
shut_for_a_while :
    (last_begun (Some 900) open_and_shut 0 ≡ Some 600)
    × (last_begun (Some 900) open_and_shut 19 ≡ Some 600)
    × (last_begun (Some 900) open_and_shut 20 ≡ Some 0)
    × (last_begun (Some 900) open_and_shut 39 ≡ Some 0)
    × (last_begun (Some 900) open_and_shut 40 ≡ Some 600)
    × (last_begun (Some 900) open_and_shut 86400 ≡ Some 600)
unfolding open_and_shut last_begun
shut_for_a_while = (refl, refl, refl, refl, refl, refl)

-- without windows the usual rate holds in each step, and so it does before the first window
usual_rate :
    (rate_in (steady (Some 900)) 40 ≡ Some 900)
    × (last_begun (Some 900) (record { from = 5; rate = None } ∷ []) 4 ≡ Some 900)
unfolding last_begun
usual_rate = (refl, refl)

-- the loop, of which the second link opens late and the turn around the loop loses its limit
in_windows : NetRows
in_windows = record {
  nodes = loop.nodes;
  links = loop.links;
  turns = slow 0 2 ∷ slow 2 1 ∷ [];
  link_windows = [] ∷ open_and_shut ∷ [];
  turn_windows =
      (record { from = 0; rate = Some 600 } ∷ record { from = 30; rate = None } ∷ []) ∷ [];
}

-- a row without an entry has no windows
link_windows_by_row :
    (link_windows in_windows 0 ≡ [])
    × (link_windows in_windows 1 ≡ open_and_shut)
    × (link_windows in_windows 2 ≡ [])
unfolding in_windows
link_windows_by_row = (refl, refl, refl)

link_rates_by_step :
    (rate_in (link_rates in_windows 0) 20 ≡ Some 600000000)
    × (rate_in (link_rates in_windows 1) 20 ≡ Some 0)
unfolding in_windows loop last_begun open_and_shut link_in
link_rates_by_step = (refl, refl)

-- a turn has a limit in one window and none in the next, and its penalty stays
turn_rates_by_step :
    (rate_in (turn_rates in_windows 0 2) 29 ≡ Some 600)
    × (rate_in (turn_rates in_windows 0 2) 30 ≡ None)
    × (rate_in (turn_rates in_windows 2 1) 30 ≡ Some 300000000)
    × (turn in_windows 0 2 ≡ Some (record { penalty = 2; rate = Some 300000000 }))
unfolding in_windows loop last_begun turn turn_at turn_windows is_named link_in
turn_rates_by_step = (refl, refl, refl, refl)

-- ---- limits
most_nodes_and_links : (MOST_NODES ≡ 1000000) × (MOST_LINKS ≡ 1000000)
most_nodes_and_links = (refl, refl)

most_turns : MOST_TURNS ≡ 4000000
most_turns = refl
