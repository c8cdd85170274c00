-- The rows of a movement table.
use Rattle.std.specs.Prelude.{ℕ, Bool, not, nat_eq, List, [], ◌∷◌, is_some, option_map, Result, Ok}
use Rattle.fixed_units.specs.Units.{penalty_steps_of, turn_rate_of}
use Rattle.fixed_units.specs.declared.turn.TheConstants.{MOST_PENALTY}
use Rattle.desk_io.specs.declared.desk.Table.TheVariants as table
use Rattle.row_reader.specs.Records.{Record}
use Rattle.row_reader.specs.Columns.{text}
use Rattle.row_reader.specs.FirstFault.{Checks, verdict}
use Rattle.row_reader.specs.Fields.{optional_quantity, quantity_or, then_with, unless, within}
use Rattle.row_reader.specs.declared.faults.Column.{Column}
use Rattle.row_reader.specs.declared.faults.Code.TheVariants as code
use Rattle.row_reader.specs.declared.faults.Column.TheVariants as column
use Rattle.row_reader.specs.declared.faults.Complaint.{Complaint}
use Rattle.row_reader.specs.declared.faults.TableFault.{TableFault}
use Rattle.net_core.specs.Ids.{place_of_pair}
use Rattle.net_core.specs.Rows.{link_in, turn_pairs}
use Rattle.net_core.specs.declared.rows.LinkNo.{LinkNo}
use Rattle.net_core.specs.declared.rows.LinkRow.{LinkRow}
use Rattle.net_core.specs.declared.rows.NodeNo.{NodeNo}
use Rattle.net_core.specs.declared.rows.NodeRow.{NodeRow}
use Rattle.net_core.specs.declared.rows.TheConstants.{MOST_TURNS}
use Rattle.net_core.specs.declared.rows.TurnRow.{TurnRow}
use Rattle.gmns_tables.specs.Names.{known_link, known_node}
use Rattle.gmns_tables.specs.RowsWithWindows.{rows_of}
use Rattle.gmns_tables.specs.Windows.{windows_by_step}
use Rattle.gmns_tables.specs.declared.windows.WindowsOf.TheVariants.{Turn}
use Rattle.gmns_tables.specs.declared.with_windows.WithWindows.{WithWindows}
use Rattle.gmns_tables.specs.declared.movement_table.TheConstants.{DEFAULT_PENALTY}
use Rattle.fixed_units.specs.declared.units.Units.{Units}

-- the columns that a movement table must have
abbrev pub movement_columns : List Column
movement_columns = column.NodeId ∷ column.IbLinkId ∷ column.ObLinkId ∷ []

-- whether a link ends, or begins, at a node
abbrev pub ends_at : List LinkRow → LinkNo → NodeNo → Bool
ends_at links link node = nat_eq (link_in links link.0).to.0 node.0

abbrev pub begins_at : List LinkRow → LinkNo → NodeNo → Bool
begins_at links link node = nat_eq (link_in links link.0).from.0 node.0

-- a penalty in thousandths of a second
abbrev pub penalty_of : List ℕ → Result ℕ Complaint
penalty_of text =
    then_with (quantity_or DEFAULT_PENALTY column.Penalty text)
    (within column.Penalty 0 MOST_PENALTY)

-- the turn of a record after the turns before it, and its windows, or the first check that fails
unfoldable pub movement_of :
    List NodeRow → List LinkRow → Units → Checks (WithWindows TurnRow)
movement_of nodes links units before r =
    then_with (known_node nodes column.NodeId (text r column.NodeId)) (λ node.
    then_with (known_link links column.IbLinkId (text r column.IbLinkId)) (λ a.
    then_with (unless (not (ends_at links a node)) code.E9 column.IbLinkId) (λ _.
    then_with (known_link links column.ObLinkId (text r column.ObLinkId)) (λ b.
    then_with (unless (not (begins_at links b node)) code.E9 column.ObLinkId) (λ _.
    then_with (unless (is_some (place_of_pair (turn_pairs (rows_of before)) a.0 b.0)) code.E6
    column.ObLinkId) (λ _.
    then_with (penalty_of (text r column.Penalty)) (λ penalty.
    then_with (optional_quantity column.Capacity (text r column.Capacity)) (λ capacity.
    then_with (windows_by_step Turn (text r column.CapacityByStep)) (λ windows.
    Ok (record {
      row = record {
        a = a;
        b = b;
        penalty = penalty_steps_of penalty units.delta;
        rate = option_map turn_rate_of capacity;
      };
      windows = windows;
    }))))))))))

-- a movement table's rows over these nodes and links, or its first fault
abbrev pub movement_verdict : List NodeRow → List LinkRow → Units → List Record
    → Result (List (WithWindows TurnRow)) TableFault
movement_verdict nodes links units records =
    verdict table.Movement MOST_TURNS movement_columns (movement_of nodes links units) records
