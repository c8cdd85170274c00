-- The networks of the worked cases. A link has ten free-flow steps, room for 125 vehicles, and
-- takes one vehicle in a step of six seconds.
use Rattle.std.specs.Prelude.{List, [], ◌∷◌, None, Some}
use Rattle.net_core.specs.declared.rows.NetRows.{NetRows}
use Rattle.net_core.specs.declared.rows.NodeRow.{NodeRow}
use Rattle.net_core.specs.Examples.{link, node}

-- from zone 1 by a node without zone to zone 3
abbrev by_a_node : List NodeRow
by_a_node = node 1 (Some 1) ∷ node 2 None ∷ node 3 (Some 3) ∷ []

-- a link after another
abbrev pub two_links : NetRows
two_links = record {
  nodes = by_a_node;
  links = link 10 0 1 ∷ link 20 1 2 ∷ [];
  turns = [];
  link_windows = [];
  turn_windows = [];
}

-- and a loop at the node between them
abbrev pub a_loop_that_pays : NetRows
a_loop_that_pays = record {
  nodes = by_a_node;
  links = link 10 0 1 ∷ link 20 1 2 ∷ link 30 1 1 ∷ [];
  turns = [];
  link_windows = [];
  turn_windows = [];
}
