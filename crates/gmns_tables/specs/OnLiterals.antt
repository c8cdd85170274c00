-- What a proof unfolds to compute the rows of a network's tables on literals.
use Rattle.std.specs.Prelude.{⊤}
use Rattle.fixed_units.specs.Quantity.{number}
use Rattle.row_reader.specs.Fields.{identifier, optional_quantity, quantity, quantity_or}
use Rattle.row_reader.specs.OnLiterals.{tables_on_literals}
use Rattle.net_core.specs.Rows.{link_in}
use Rattle.gmns_tables.specs.Links.{free_speed_of, is_undirected, link_of}
use Rattle.gmns_tables.specs.Movements.{movement_of}
use Rattle.gmns_tables.specs.Names.{known_link, known_node}
use Rattle.gmns_tables.specs.Net.{net_verdict}
use Rattle.gmns_tables.specs.Nodes.{node_of}
use Rattle.gmns_tables.specs.Windows.{window_in, windows_by_step}

unfoldable pub networks_on_literals : ⊤
unfolding tables_on_literals number identifier quantity quantity_or optional_quantity known_node
    known_link link_in node_of is_undirected free_speed_of
    link_of movement_of net_verdict
    window_in windows_by_step
networks_on_literals = tt
