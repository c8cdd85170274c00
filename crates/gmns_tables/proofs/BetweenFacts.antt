-- Links lie between nodes that are there.
use Rattle.std.proofs.Common.{ℕ, ◌<◌, List, length, refl}
use Rattle.std.specs.Prelude.{IfOk, is_some}
use Rattle.std.proofs.lemmas.List.{length-map}
use Rattle.fixed_units.specs.Units.{length_of, free_steps_of}
use Rattle.row_reader.specs.Columns.{text}
use Rattle.row_reader.specs.Fields.{identifier, quantity, unless}
use Rattle.row_reader.specs.Rows.{FieldsView}
use Rattle.row_reader.specs.declared.faults.Code.TheVariants as code
use Rattle.row_reader.specs.declared.faults.Column.{Column}
use Rattle.row_reader.specs.declared.faults.Column.TheVariants as column
use Rattle.row_reader.proofs.Kept.{if_ok, passes}
use Rattle.net_core.specs.Ids.{place_of}
use Rattle.net_core.specs.Rows.{IsBetween, link_ids, node_ids, node_named}
use Rattle.net_core.specs.declared.rows.LinkRow.{LinkRow}
use Rattle.net_core.specs.declared.rows.NodeNo.{NodeNo}
use Rattle.net_core.specs.declared.rows.NodeRow.{NodeRow}
use Rattle.gmns_tables.specs.Links.{capacity_of, free_speed_of, is_undirected, lanes_of, link_of, steps_told}
use Rattle.gmns_tables.specs.Names.{known_node}
use Rattle.gmns_tables.specs.RowsWithWindows.{rows_of}
use Rattle.gmns_tables.specs.Windows.{windows_by_step}
use Rattle.gmns_tables.specs.declared.windows.WindowsOf.TheVariants.{Link}
use Rattle.gmns_tables.specs.declared.with_windows.WithWindows.{WithWindows}
use Rattle.fixed_units.specs.declared.units.Units.{Units}
use Rattle.gmns_tables.proofs.ChainFacts.{found-below}

-- a field that names a node names one that is there
pub known_node-below : (nodes : List NodeRow) (what : Column) (text : List ℕ) → IfOk (known_node nodes what text) (λ node. node.0 < length nodes)
unfolding known_node
known_node-below nodes what text = passes (λ (node : NodeNo). node.0 < length nodes) (identifier what text) _ (λ id _.
    rw (← length-map nodes (λ (n : NodeRow). n.id))
    (found-below (λ (n : NodeNo). n.0) (λ place. record { 0 = place }) (λ place. refl) (node_ids nodes) id code.E7 what (node_named nodes id) refl))

-- each link that a record gives lies between nodes that are there
pub link_of-between : (nodes : List NodeRow) (units : Units) (before : List (WithWindows LinkRow)) (r : FieldsView)
    → IfOk (link_of nodes units before r) (λ link. IsBetween nodes link.row)
unfolding link_of
link_of-between nodes units before r =
    let Q : WithWindows LinkRow → Type 0 = λ link. IsBetween nodes link.row in
    passes Q (identifier column.LinkId (text r column.LinkId)) _ (λ id _.
    passes Q (unless (is_some (place_of (link_ids (rows_of before)) id)) code.E6 column.LinkId) _ (λ _ _.
    passes Q (known_node nodes column.FromNodeId (text r column.FromNodeId)) _ (λ from from-is.
    passes Q (known_node nodes column.ToNodeId (text r column.ToNodeId)) _ (λ to to-is.
    passes Q (unless (is_undirected (text r column.Directed)) code.E10 column.Directed) _ (λ _ _.
    passes Q (quantity column.Length (text r column.Length)) _ (λ size _.
    passes Q (lanes_of (text r column.Lanes)) _ (λ lanes _.
    passes Q (free_speed_of units.speed (text r column.FreeSpeed)) _ (λ speed _.
    passes Q (steps_told (free_steps_of (length_of size units.length) speed units.delta)) _ (λ free _.
    passes Q (capacity_of (text r column.Capacity)) _ (λ capacity _.
    passes Q (windows_by_step (Link lanes) (text r column.CapacityByStep)) _ (λ windows _.
    record {
      from = if_ok (λ (node : NodeNo). node.0 < length nodes) from-is (known_node-below nodes column.FromNodeId (text r column.FromNodeId));
      to = if_ok (λ (node : NodeNo). node.0 < length nodes) to-is (known_node-below nodes column.ToNodeId (text r column.ToNodeId));
    })))))))))))
