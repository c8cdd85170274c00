-- The rows of a node table.
use Rattle.std.specs.Prelude.{ℕ, List, [], ◌∷◌, Option, is_some, Result, Ok, Err}
use Rattle.fixed_units.specs.Zone.{zone_of}
use Rattle.fixed_units.specs.declared.fault.NumberFault.{NumberFault}
use Rattle.desk_io.specs.declared.desk.Table.TheVariants as table
use Rattle.row_reader.specs.Records.{Record}
use Rattle.row_reader.specs.Columns.{text}
use Rattle.row_reader.specs.FirstFault.{Checks, verdict}
use Rattle.row_reader.specs.Fields.{identifier, not_a_number, then_with, unless}
use Rattle.row_reader.specs.declared.faults.Code.TheVariants as code
use Rattle.row_reader.specs.declared.faults.Column.TheVariants as column
use Rattle.row_reader.specs.declared.faults.Complaint.{Complaint}
use Rattle.row_reader.specs.declared.faults.TableFault.{TableFault}
use Rattle.net_core.specs.Ids.{place_of}
use Rattle.net_core.specs.Rows.{node_ids}
use Rattle.net_core.specs.declared.rows.NodeRow.{NodeRow}
use Rattle.net_core.specs.declared.rows.TheConstants.{MOST_NODES}

-- a zone field's zone, or what is wrong with the field
abbrev pub zone_told : Result (Option ℕ) NumberFault → Result (Option ℕ) Complaint
zone_told (Ok zone) = Ok zone
zone_told (Err fault) = Err (not_a_number column.ZoneId fault)

-- the node of a record after the nodes before it, or the first check that fails
unfoldable pub node_of : Checks NodeRow
node_of before r =
    then_with (identifier column.NodeId (text r column.NodeId)) (λ id.
    then_with (unless (is_some (place_of (node_ids before) id)) code.E6 column.NodeId) (λ _.
    then_with (zone_told (zone_of (text r column.ZoneId))) (λ zone.
    Ok (record { id = id; zone = zone }))))

-- a node table's rows, or its first fault
abbrev pub node_verdict : List Record → Result (List NodeRow) TableFault
node_verdict records = verdict table.Node MOST_NODES (column.NodeId ∷ []) node_of records
