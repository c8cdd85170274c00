-- The network of tables that were read in order.
use Rattle.std.specs.Prelude.{◌≡◌, List, [], Option, None, Some, Result, Ok, Err, ⊤}
use Rattle.row_reader.specs.Records.{Record}
use Rattle.row_reader.specs.Fields.{then_with}
use Rattle.row_reader.specs.declared.faults.TableFault.{TableFault}
use Rattle.row_reader.specs.declared.faults.TableRefusal.{TableRefusal}
use Rattle.row_reader.specs.declared.faults.TableRefusal.TheVariants as refusal
use Rattle.net_core.specs.declared.rows.LinkRow.{LinkRow}
use Rattle.net_core.specs.declared.rows.NetRows.{NetRows}
use Rattle.net_core.specs.declared.rows.NodeRow.{NodeRow}
use Rattle.net_core.specs.declared.rows.TurnRow.{TurnRow}
use Rattle.gmns_tables.specs.Links.{link_verdict}
use Rattle.gmns_tables.specs.Movements.{movement_verdict}
use Rattle.gmns_tables.specs.Nodes.{node_verdict}
use Rattle.gmns_tables.specs.RowsWithWindows.{rows_of, windows_of}
use Rattle.gmns_tables.specs.declared.with_windows.WithWindows.{WithWindows}
use Rattle.fixed_units.specs.declared.units.Units.{Units}

-- the turns of a movement table that may be missing
abbrev pub listed_turns : Option (List (WithWindows TurnRow)) → List (WithWindows TurnRow)
listed_turns None = []
listed_turns (Some turns) = turns

-- the rows of a network
abbrev pub net_rows :
    List NodeRow → List (WithWindows LinkRow) → List (WithWindows TurnRow) → NetRows
net_rows nodes links turns = record {
  nodes = nodes;
  links = rows_of links;
  turns = rows_of turns;
  link_windows = windows_of links;
  turn_windows = windows_of turns;
}

-- the rows of a network, whose movement table may be missing
abbrev pub net_of :
    List NodeRow → List (WithWindows LinkRow) → Option (List (WithWindows TurnRow)) → NetRows
net_of nodes links turns = net_rows nodes links (listed_turns turns)

-- the rows of a movement table that may be missing, or its first fault
abbrev pub listed_verdict : List NodeRow → List LinkRow → Units → Option (List Record)
    → Result (List (WithWindows TurnRow)) TableFault
listed_verdict nodes links units None = Ok []
listed_verdict nodes links units (Some records) = movement_verdict nodes links units records

-- a network's rows, or the first fault of its first table that has one: nodes, then links, then
-- movements
unfoldable pub net_verdict : Units → List Record → List Record → Option (List Record)
    → Result NetRows TableFault
net_verdict units node link movement =
    then_with (node_verdict node) (λ nodes.
    then_with (link_verdict nodes units link) (λ links.
    then_with (listed_verdict nodes (rows_of links) units movement) (λ turns.
    Ok (net_rows nodes links turns))))

-- what the reader of a network answers: its rows, the first fault, or want of memory
abbrev pub TellsNet : Result NetRows TableFault → Result NetRows TableRefusal → Type 0
TellsNet told (Ok net) = told ≡ Ok net
TellsNet told (Err (refusal.Fault fault)) = told ≡ Err fault
TellsNet told (Err refusal.Memory) = ⊤
