-- The rows of a network's tables.
use Rattle.std.specs.Prelude.{ℕ, ◌<◌, ◌≤◌, ◌≡◌, List, length, map, Option, None, Some, IfSome}
use Rattle.std.specs.Prelude.{option_map, All, nat_eq, slice_get}
use Rattle.std.specs.List.{IsDistinct}
use Rattle.fixed_units.specs.declared.link.TheConstants.{MOST_FREE_STEPS, MOST_STORAGE}
use Rattle.net_core.specs.Ids.{pair_eq, place_of}
use Rattle.net_core.specs.declared.rows.LinkNo.{LinkNo}
use Rattle.net_core.specs.declared.rows.LinkRow.{LinkRow}
use Rattle.net_core.specs.declared.rows.NodeNo.{NodeNo}
use Rattle.net_core.specs.declared.rows.NodeRow.{NodeRow}
use Rattle.net_core.specs.declared.rows.TheConstants.{MOST_NODES, MOST_LINKS, MOST_TURNS}
use Rattle.fixed_units.specs.declared.turn.TheConstants.{MOST_PENALTY_STEPS}
use Rattle.fixed_units.specs.declared.link.TheConstants.{MOST_RATE}
use Rattle.net_core.specs.declared.rows.TurnRow.{TurnRow}

-- the identifiers of nodes, in the order of the table
abbrev pub node_ids : List NodeRow → List ℕ
node_ids nodes = map (λ node. node.id) nodes

-- the node that has an identifier
abbrev pub node_named : List NodeRow → ℕ → Option NodeNo
node_named nodes id = option_map (λ place. record { 0 = place }) (place_of (node_ids nodes) id)

-- nodes of a table: with different identifiers, and no more than there may be
pub record AreNodes (nodes : List NodeRow) : Type 0 where
  pub distinct : IsDistinct nat_eq (node_ids nodes)
  pub few : length nodes ≤ MOST_NODES

-- the identifiers of links, in the order of the table
abbrev pub link_ids : List LinkRow → List ℕ
link_ids links = map (λ link. link.id) links

-- the link that has an identifier
abbrev pub link_named : List LinkRow → ℕ → Option LinkNo
link_named links id = option_map (λ place. record { 0 = place }) (place_of (link_ids links) id)

-- a link whose numbers are in range
pub record IsLinkInRange (link : LinkRow) : Type 0 where
  pub moves : 1 ≤ link.free
  pub free : link.free ≤ MOST_FREE_STEPS
  pub stores : 1 ≤ link.storage
  pub storage : link.storage ≤ MOST_STORAGE
  pub rate : link.rate ≤ MOST_RATE

-- links of a table: with different identifiers, no more than there may be, and with numbers in
-- range
pub record AreLinks (links : List LinkRow) : Type 0 where
  pub distinct : IsDistinct nat_eq (link_ids links)
  pub few : length links ≤ MOST_LINKS
  pub range : All IsLinkInRange links

-- a link between nodes that are there
pub record IsBetween (nodes : List NodeRow) (link : LinkRow) : Type 0 where
  pub from : link.from.0 < length nodes
  pub to : link.to.0 < length nodes

-- what stands for a link that isn't there
abbrev pub no_link : LinkRow
no_link = record {
  id = 0;
  from = record { 0 = 0 };
  to = record { 0 = 0 };
  micrometres = 0;
  free = 1;
  storage = 1;
  rate = 0;
}

abbrev pub or_no_link : Option LinkRow → LinkRow
or_no_link None = no_link
or_no_link (Some link) = link

-- the link at a place
unfoldable pub link_in : List LinkRow → ℕ → LinkRow
link_in links l = or_no_link (slice_get links l)

-- the two links of each turn, in the order of the table
abbrev pub turn_pairs : List TurnRow → List (ℕ × ℕ)
turn_pairs turns = map (λ turn. (turn.a.0, turn.b.0)) turns

-- a turn whose numbers are in range
pub record IsTurnInRange (turn : TurnRow) : Type 0 where
  pub penalty : turn.penalty ≤ MOST_PENALTY_STEPS
  pub rate : IfSome turn.rate (λ rate. rate ≤ MOST_RATE)

-- turns of a table: of different pairs of links, no more than there may be, and with numbers in
-- range
pub record AreTurns (turns : List TurnRow) : Type 0 where
  pub distinct : IsDistinct pair_eq (turn_pairs turns)
  pub few : length turns ≤ MOST_TURNS
  pub range : All IsTurnInRange turns

-- a turn between links that are there, of which the first ends where the second begins
pub record IsTurning (links : List LinkRow) (turn : TurnRow) : Type 0 where
  pub from : turn.a.0 < length links
  pub to : turn.b.0 < length links
  pub meets : (link_in links turn.a.0).to ≡ (link_in links turn.b.0).from
