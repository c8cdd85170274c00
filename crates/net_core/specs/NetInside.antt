-- What a network keeps beside its rows: links by node, the nodes of turns, the
-- places of turns, and zones.
use Rattle.std.specs.Prelude.{◌≡◌, ◌≤◌, length}
use Rattle.net_core.specs.AreListed.{AreListed}
use Rattle.net_core.specs.ByNode.{AreNamed, all_links, end_of, start_of, node_of}
use Rattle.net_core.specs.Network.{IsNet, zones}
use Rattle.net_core.specs.Rows.{turn_pairs}
use Rattle.net_core.specs.declared.net.Net.TheInside.{Inside}
use Rattle.net_core.specs.declared.rows.NetRows.{NetRows}

abbrev pub rows_of : Inside → NetRows
rows_of net = record {
  nodes = net.nodes.items;
  links = net.links.items;
  turns = net.turns.items;
  link_windows = net.link_windows.items;
  turn_windows = net.turn_windows.items;
}

pub record IsIndexed (net : Inside) : Type 0 where
  pub rows : IsNet (rows_of net)
  pub ins :
      AreListed net.ins (length net.nodes.items) (end_of net.links.items)
      (all_links net.links.items)
  pub outs :
      AreListed net.outs (length net.nodes.items) (start_of net.links.items)
      (all_links net.links.items)
  pub named :
      AreNamed net.named.items (length net.nodes.items) (node_of net.links.items) net.turns.items
  pub pairs : net.pairs ≡ turn_pairs net.turns.items
  pub zones : net.zones ≡ zones net.nodes.items
  pub few : length net.zones ≤ length net.nodes.items
