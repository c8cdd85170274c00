-- The rows of a link table.
use Rattle.std.specs.Prelude.{ℕ, ◌||◌, Bool, List, [], ◌∷◌, codes, Option, None, Some, is_some}
use Rattle.std.specs.Prelude.{Result, Ok, Err}
use Rattle.std.specs.Str.{str_eq_ignore_ascii_case}
use Rattle.fixed_units.specs.Units.{length_of, speed_of, free_steps_of, storage_of, link_rate_of}
use Rattle.fixed_units.specs.declared.link.TheConstants.{MOST_LANES}
use Rattle.fixed_units.specs.declared.link.TooSlow.{TooSlow}
use Rattle.fixed_units.specs.declared.measure.Speed.{Speed}
use Rattle.fixed_units.specs.declared.measure.SpeedUnit.{SpeedUnit}
use Rattle.fixed_units.specs.declared.measure.SpeedUnit.TheVariants.{Kmh}
use Rattle.fixed_units.specs.declared.quantity.TheConstants.{MOST_THOUSANDTHS}
use Rattle.desk_io.specs.declared.desk.Table.TheVariants as table
use Rattle.row_reader.specs.Records.{Record}
use Rattle.row_reader.specs.Columns.{text}
use Rattle.row_reader.specs.FirstFault.{Checks, verdict}
use Rattle.row_reader.specs.Fields.{complain, identifier, optional_quantity, quantity, quantity_or}
use Rattle.row_reader.specs.Fields.{then_with, unless, within}
use Rattle.row_reader.specs.declared.faults.Column.{Column}
use Rattle.row_reader.specs.declared.faults.Code.TheVariants as code
use Rattle.row_reader.specs.declared.faults.Column.TheVariants as column
use Rattle.row_reader.specs.declared.faults.Complaint.{Complaint}
use Rattle.row_reader.specs.declared.faults.TableFault.{TableFault}
use Rattle.net_core.specs.Ids.{place_of}
use Rattle.net_core.specs.Rows.{link_ids}
use Rattle.net_core.specs.declared.rows.LinkRow.{LinkRow}
use Rattle.net_core.specs.declared.rows.NodeRow.{NodeRow}
use Rattle.net_core.specs.declared.rows.TheConstants.{MOST_LINKS}
use Rattle.gmns_tables.specs.Names.{known_node}
use Rattle.gmns_tables.specs.RowsWithWindows.{rows_of}
use Rattle.gmns_tables.specs.Windows.{windows_by_step}
use Rattle.gmns_tables.specs.declared.windows.WindowsOf.TheVariants.{Link}
use Rattle.gmns_tables.specs.declared.with_windows.WithWindows.{WithWindows}
use Rattle.gmns_tables.specs.declared.link_table.TheConstants.{DEFAULT_LANES, DEFAULT_SPEED}
use Rattle.gmns_tables.specs.declared.link_table.TheConstants.{LEAST_SPEED, DEFAULT_CAPACITY}
use Rattle.fixed_units.specs.declared.units.Units.{Units}

-- the columns that a link table must have
abbrev pub link_columns : List Column
link_columns =
    column.LinkId ∷ column.FromNodeId ∷ column.ToNodeId ∷ column.Length ∷ []

-- a text that says that a link goes both ways, in small or capital letters
unfoldable pub is_undirected : List ℕ → Bool
is_undirected text =
    (str_eq_ignore_ascii_case text (codes "0") || str_eq_ignore_ascii_case text (codes "0.0"))
    || (str_eq_ignore_ascii_case text (codes "false") || str_eq_ignore_ascii_case text (codes "no"))

-- a number of lanes in thousandths
abbrev pub lanes_of : List ℕ → Result ℕ Complaint
lanes_of text =
    then_with (quantity_or DEFAULT_LANES column.Lanes text) (within column.Lanes 0 MOST_LANES)

-- a speed of so many thousandths of a unit; where there is none, the default in kilometres per
-- hour
abbrev pub speed_or_default : SpeedUnit → Option ℕ → Result Speed Complaint
speed_or_default unit None = Ok (speed_of DEFAULT_SPEED Kmh)
speed_or_default unit (Some thousandths) =
    then_with (within column.FreeSpeed LEAST_SPEED MOST_THOUSANDTHS thousandths) (λ n.
    Ok (speed_of n unit))

-- a free speed
unfoldable pub free_speed_of : SpeedUnit → List ℕ → Result Speed Complaint
free_speed_of unit text =
    then_with (optional_quantity column.FreeSpeed text) (speed_or_default unit)

-- the free-flow steps of a link, or that it is too slow
abbrev pub steps_told : Result ℕ TooSlow → Result ℕ Complaint
steps_told (Ok steps) = Ok steps
steps_told (Err _) = Err (complain code.E11 column.FreeSpeed)

-- the capacity of a lane in thousandths
abbrev pub capacity_of : List ℕ → Result ℕ Complaint
capacity_of text = quantity_or DEFAULT_CAPACITY column.Capacity text

-- the link of a record after the links before it, and its windows, whose rates are by its lanes,
-- or the first check that fails
unfoldable pub link_of : List NodeRow → Units → Checks (WithWindows LinkRow)
link_of nodes units before r =
    then_with (identifier column.LinkId (text r column.LinkId)) (λ id.
    then_with (unless (is_some (place_of (link_ids (rows_of before)) id)) code.E6 column.LinkId)
    (λ _.
    then_with (known_node nodes column.FromNodeId (text r column.FromNodeId)) (λ from.
    then_with (known_node nodes column.ToNodeId (text r column.ToNodeId)) (λ to.
    then_with (unless (is_undirected (text r column.Directed)) code.E10 column.Directed) (λ _.
    then_with (quantity column.Length (text r column.Length)) (λ length.
    then_with (lanes_of (text r column.Lanes)) (λ lanes.
    then_with (free_speed_of units.speed (text r column.FreeSpeed)) (λ speed.
    then_with (steps_told (free_steps_of (length_of length units.length) speed units.delta))
    (λ free.
    then_with (capacity_of (text r column.Capacity)) (λ capacity.
    then_with (windows_by_step (Link lanes) (text r column.CapacityByStep)) (λ windows.
    Ok (record {
      row = record {
        id = id;
        from = from;
        to = to;
        micrometres = (length_of length units.length).micrometres;
        free = free;
        storage = storage_of (length_of length units.length) lanes units.jam;
        rate = link_rate_of capacity lanes;
      };
      windows = windows;
    }))))))))))))

-- a link table's rows over these nodes, or its first fault
abbrev pub link_verdict : List NodeRow → Units → List Record
    → Result (List (WithWindows LinkRow)) TableFault
link_verdict nodes units records =
    verdict table.Link MOST_LINKS link_columns (link_of nodes units) records
