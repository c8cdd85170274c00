-- The tables that a command reads, one after the other.
use Rattle.std.specs.Prelude.{ℕ, ◌≡◌, ◌≤◌, ◌⊎◌, ⊤, List, [], ◌∷◌, length, Some, Result, Ok, Err}
use Rattle.desk_io.specs.declared.desk.Table.{Table}
use Rattle.desk_io.specs.declared.desk.Table.TheVariants as table
use Rattle.desk_io.specs.Desk.{Left, left_of}
use Rattle.desk_io.specs.Transfers.{IsRead}
use Rattle.row_reader.specs.Fields.{then_with}
use Rattle.row_reader.specs.Records.{records}
use Rattle.row_reader.specs.declared.faults.TableFault.{TableFault}
use Rattle.net_core.specs.declared.rows.TurnRow.{TurnRow}
use Rattle.gmns_tables.specs.Nodes.{node_verdict}
use Rattle.gmns_tables.specs.Links.{link_verdict}
use Rattle.gmns_tables.specs.Movements.{movement_verdict}
use Rattle.gmns_tables.specs.RowsWithWindows.{rows_of}
use Rattle.gmns_tables.specs.declared.with_windows.WithWindows.{WithWindows}
use Rattle.demand.specs.DemandRows.{demand_verdict}
use Rattle.skims.specs.TimesTable.{times_verdict}
use Rattle.desk_io.specs.declared.transfers.TheConstants.{MOST_TABLE_BYTES}
use Rattle.dta_words.specs.declared.command.Settings.{Settings}
use Rattle.jobs.specs.Inputs.{inputs_of}
use Rattle.jobs.specs.TableRows.{TableRows, net_of}

-- a movement table of zero bytes stands for none
abbrev pub turns_of :
    Settings → TableRows → List ℕ → Result (List (WithWindows TurnRow)) TableFault
turns_of settings rows [] = Ok []
turns_of settings rows (byte ∷ bytes) =
    movement_verdict rows.nodes (rows_of rows.links) settings.units (records (byte ∷ bytes))

-- the rows with those of one more table, or that table's first fault
abbrev pub with_table : Settings → TableRows → Table → List ℕ → Result TableRows TableFault
with_table settings rows table.Node bytes =
    then_with (node_verdict (records bytes)) (λ nodes. Ok (record rows { nodes = nodes }))
with_table settings rows table.Link bytes =
    then_with (link_verdict rows.nodes settings.units (records bytes))
    (λ links. Ok (record rows { links = links }))
with_table settings rows table.Movement bytes =
    then_with (turns_of settings rows bytes) (λ turns. Ok (record rows { turns = turns }))
with_table settings rows table.Demand bytes =
    then_with (demand_verdict settings.period (records bytes))
    (λ demand_cells. Ok (record rows { demand_cells = demand_cells }))
with_table settings rows table.Start bytes =
    (inputs_of settings.command).with_agents rows bytes
with_table settings rows table.Times bytes =
    then_with (times_verdict (net_of rows) settings.bucket settings.horizon (records bytes))
    (λ times. Ok (record rows { times = times }))

-- a table was read to its end and accepted after these rows, which are then those
pub record IsAccepted (settings : Settings) (t : Table) (rows more : TableRows)
    (before after : Left) : Type 0 where
  pub bytes : List ℕ
  pub read : IsRead t bytes before after
  pub short : length bytes ≤ MOST_TABLE_BYTES
  pub accepted : with_table settings rows t bytes ≡ Ok more

-- a table was read to its end and has this first fault
pub record IsFaulty (settings : Settings) (fault : TableFault) (t : Table) (rows : TableRows)
    (before after : Left) : Type 0 where
  pub bytes : List ℕ
  pub read : IsRead t bytes before after
  pub short : length bytes ≤ MOST_TABLE_BYTES
  pub first : with_table settings rows t bytes ≡ Err fault
  pub its_own : fault.table ≡ t

-- these tables were read and accepted one after the other
abbrev pub AreAccepted : Settings → List Table → TableRows → TableRows → Left → Left → Type 0
AreAccepted settings [] rows more before after = (more ≡ rows) × (after ≡ before)
AreAccepted settings (t ∷ others) rows more before after =
    (next : TableRows) × (between : Left) × IsAccepted settings t rows next before between
    × AreAccepted settings others next more between after

-- a table was reached, since those before it were accepted, and this was so of it
abbrev pub ReachedAmong :
    Settings → List Table → Table → (TableRows → Left → Left → Type 0) → TableRows → Left → Left
    → Type 0
ReachedAmong settings [] t Part rows before after = ⊥
ReachedAmong settings (first ∷ others) t Part rows before after =
    ((first ≡ t) × Part rows before after)
    ⊎ ((next : TableRows) × (between : Left) × IsAccepted settings first rows next before between
    × ReachedAmong settings others t Part next between after)

-- the bytes of these tables are told
abbrev pub AreTold : List Table → Left → (Table → List ℕ) → Type 0
AreTold [] left texts = ⊤
AreTold (t ∷ others) left texts = (left_of t left ≡ Some (texts t)) × AreTold others left texts
