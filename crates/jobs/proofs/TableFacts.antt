-- The first fault of a table stands in that table, and reading stops there.
use Rattle.std.proofs.Common.{◌≡◌, ℕ, ◌+◌, ◌≤◌, List, [], ◌∷◌, ◌++◌, length, refl, sym, ap, subst, true, false, arith, ◌∙◌}
use Rattle.std.specs.Prelude.{All, Result, Ok, Err, nat_lt}
use Rattle.desk_io.specs.declared.desk.Table.{Table}
use Rattle.desk_io.specs.declared.desk.Table.TheVariants as table
use Rattle.desk_io.specs.Desk.{Left}
use Rattle.desk_io.specs.Transfers.{IsRead}
use Rattle.row_reader.specs.Records.{Record, is_text, records}
use Rattle.row_reader.specs.Faults.{fault_of}
use Rattle.row_reader.specs.Fields.{complain, has_columns, then_with}
use Rattle.row_reader.specs.FirstFault.{Checks, Judge, Tells, at_line, judged, rows_from, verdict}
use Rattle.row_reader.specs.declared.faults.Code.TheVariants.{E2, E13}
use Rattle.row_reader.specs.declared.faults.Column.{Column}
use Rattle.row_reader.specs.declared.faults.Column.TheVariants as column
use Rattle.row_reader.specs.declared.faults.Column.TheVariants.{NoColumn}
use Rattle.row_reader.specs.declared.faults.Complaint.{Complaint}
use Rattle.row_reader.specs.declared.faults.TableFault.{TableFault}
use Rattle.row_reader.specs.declared.faults.TableRefusal.{TableRefusal}
use Rattle.row_reader.specs.declared.faults.TableRefusal.TheVariants as refusal
use Rattle.net_core.specs.declared.rows.LinkRow.{LinkRow}
use Rattle.net_core.specs.declared.rows.NetRows.{NetRows}
use Rattle.net_core.specs.declared.rows.NodeRow.{NodeRow}
use Rattle.net_core.specs.declared.rows.TurnRow.{TurnRow}
use Rattle.net_core.specs.declared.rows.TheConstants.{MOST_LINKS, MOST_NODES, MOST_TURNS}
use Rattle.gmns_tables.specs.Links.{link_columns, link_of, link_verdict}
use Rattle.gmns_tables.specs.Movements.{movement_columns, movement_of}
use Rattle.gmns_tables.specs.Net.{net_rows}
use Rattle.gmns_tables.specs.RowsWithWindows.{AreLinkRows, AreTurnRows, rows_of}
use Rattle.std.proofs.lemmas.List.{length-map}
use Rattle.net_core.specs.Network.{IsNet}
use Rattle.net_core.specs.Rows.{AreNodes, IsBetween, IsTurning}
use Rattle.gmns_tables.specs.declared.with_windows.WithWindows.{WithWindows}
use Rattle.gmns_tables.specs.Nodes.{node_of, node_verdict}
use Rattle.demand.specs.DemandRows.{demand_cell_of, demand_columns, demand_verdict}
use Rattle.start_table.specs.StartTable.{start_columns, start_row_of, start_verdict}
use Rattle.agent_table.specs.Agents.{agent_columns, agent_row_of, agents_verdict}
use Rattle.agent_table.specs.declared.rows.TheConstants.{MOST_AGENT_ROWS}
use Rattle.dta_words.specs.declared.command.Command.{Command}
use Rattle.dta_words.specs.declared.command.Command.TheVariants as command
use Rattle.start_table.specs.declared.rows.TheConstants.{MOST_START_ROWS}
use Rattle.demand.specs.declared.demand_rows.TheConstants.{MOST_DEMAND_CELLS}
use Rattle.desk_io.specs.declared.transfers.TheConstants.{MOST_TABLE_BYTES}
use Rattle.jobs.specs.Reading.{ReadState}
use Rattle.jobs.specs.TableRows.{TableRows, net_of}
use Rattle.jobs.specs.Inputs.{Auditing, Kind, inputs_by, inputs_of, kind_of}
use Rattle.jobs.specs.Stops.{StopsAt, stop_of}
use Rattle.jobs.specs.Tables.{IsAccepted, turns_of, with_table}
use Rattle.jobs.specs.Calls.{with_time_rows}
use Rattle.skims.specs.TimesTable.{none_missing, row_count, time_row_of, times_columns, times_verdict}
use Rattle.skims.specs.declared.times_table.TheConstants.{MOST_TIME_ROWS}
use Rattle.skims.specs.declared.time_rows.TimeRow.{TimeRow}
use Rattle.dta_words.specs.declared.command.Settings.{Settings}

-- of a line, and then of the rest
then-table : {A B : Type 0} (t : Table) (line : ℕ) (r : Result A Complaint) (next : A → Result B TableFault) (f : TableFault)
    → ((x : A) (g : TableFault) → next x ≡ Err g → g.table ≡ t) → then_with (at_line t line r) next ≡ Err f → f.table ≡ t
then-table t line (Ok x) next f more e = more x f e
then-table t line (Err c) next f more e = let s : fault_of t line c ≡ f = cc in ap (λ (g : TableFault). g.table) (sym s)

rows-table : {R : Type 0} (t : Table) (judge : Judge R) (before : List R) (rest : List Record) (f : TableFault) → rows_from t judge before rest ≡ Err f → f.table ≡ t
unfolding rows_from
rows-table t judge before [] f e = absurd cc
rows-table t judge before (r ∷ rest) f e =
    then-table t (length before + 2) (judge before r) _ f (λ row g h. rows-table t judge (before ++ row ∷ []) rest g h) e

pub verdict-table : {R : Type 0} (t : Table) (limit : ℕ) (required : List Column) (checks : Checks R) (all : List Record) (f : TableFault)
    → verdict t limit required checks all ≡ Err f → f.table ≡ t
unfolding verdict
verdict-table t limit required checks [] f e = then-table t 1 (has_columns [] required) _ f (λ _ g h. rows-table t (judged [] limit checks) [] [] g h) e
verdict-table t limit required checks (header ∷ rest) f e =
    elim (is_text header) as (λ b. is_text header ≡ b → f.table ≡ t) [
      | true ↦ λ b. then-table t 1 (has_columns header required) _ f (λ _ g h. rows-table t (judged header limit checks) [] rest g h) (rw b at e)
      | false ↦ λ b. let k = rw b at e in let s : fault_of t 1 (complain E2 NoColumn) ≡ f = cc in ap (λ (g : TableFault). g.table) (sym s)
    ] refl

-- what a reader refused over a text that is these bytes
abbrev IsToldBy : Settings → Table → TableRows → List ℕ → TableRefusal → Type 0
IsToldBy settings t rows bytes (refusal.Fault f) = (with_table settings rows t bytes ≡ Err f) × (f.table ≡ t)
IsToldBy settings t rows bytes refusal.Memory = Unit {0}

-- reading stopped at a table by what its reader answered over the text that was read
pub stop-at : (settings : Settings) (t : Table) (rows : TableRows) (bytes text : List ℕ) (before after : ReadState) (why : TableRefusal)
    → IsRead t bytes before.left after.left → length bytes ≤ MOST_TABLE_BYTES → text ≡ bytes → IsToldBy settings t rows text why
    → StopsAt settings t rows (stop_of why) before after
stop-at settings t rows bytes text before after (refusal.Fault f) read short same told =
    (told.1, record { bytes = bytes; read = read; short = short; first = subst (λ x. with_table settings rows t x ≡ Err f) same told.0; its_own = told.1 })
stop-at settings t rows bytes text before after refusal.Memory read short same told = record { bytes = bytes; read = read.read }

-- or the table was accepted
pub accepted-at : (settings : Settings) (t : Table) (rows more : TableRows) (bytes text : List ℕ) (before after : Left)
    → IsRead t bytes before after → length bytes ≤ MOST_TABLE_BYTES → text ≡ bytes → with_table settings rows t text ≡ Ok more
    → IsAccepted settings t rows more before after
accepted-at settings t rows more bytes text before after read short same is =
    record { bytes = bytes; read = read; short = short; accepted = subst (λ x. with_table settings rows t x ≡ Ok more) same is }

-- what a reader refuses is the first fault of its table
told-by : {R : Type 0} (settings : Settings) (t : Table) (rows : TableRows) (text : List ℕ) (r : Result (List R) TableFault) (next : List R → Result TableRows TableFault) (why : TableRefusal)
    → with_table settings rows t text ≡ then_with r next → ((f : TableFault) → r ≡ Err f → f.table ≡ t) → Tells r (Err why) → IsToldBy settings t rows text why
told-by settings t rows text r next (refusal.Fault f) is own told = (is ∙ (rw (told) refl), own f told)
told-by settings t rows text r next refusal.Memory is own told = tt

pub nodes-told : (settings : Settings) (rows : TableRows) (text : List ℕ) (why : TableRefusal) → Tells (node_verdict (records text)) (Err why)
    → IsToldBy settings table.Node rows text why
nodes-told settings rows text why =
    told-by settings table.Node rows text (node_verdict (records text)) _ why refl (verdict-table table.Node MOST_NODES (column.NodeId ∷ []) node_of (records text))

pub links-told : (settings : Settings) (rows : TableRows) (text : List ℕ) (why : TableRefusal) → Tells (link_verdict rows.nodes settings.units (records text)) (Err why)
    → IsToldBy settings table.Link rows text why
links-told settings rows text why =
    told-by settings table.Link rows text (link_verdict rows.nodes settings.units (records text)) _ why refl (verdict-table table.Link MOST_LINKS link_columns (link_of rows.nodes settings.units) (records text))

turns-table : (settings : Settings) (rows : TableRows) (bytes : List ℕ) (f : TableFault) → turns_of settings rows bytes ≡ Err f → f.table ≡ table.Movement
turns-table settings rows [] f told = absurd cc
turns-table settings rows (b ∷ bytes) f told =
    verdict-table table.Movement MOST_TURNS movement_columns (movement_of rows.nodes (rows_of rows.links) settings.units) (records (b ∷ bytes)) f told

pub turns-told : (settings : Settings) (rows : TableRows) (text : List ℕ) (why : TableRefusal) → Tells (turns_of settings rows text) (Err why)
    → IsToldBy settings table.Movement rows text why
turns-told settings rows text why = told-by settings table.Movement rows text (turns_of settings rows text) _ why refl (turns-table settings rows text)

pub demand_cells-told : (settings : Settings) (rows : TableRows) (text : List ℕ) (why : TableRefusal) → Tells (demand_verdict settings.period (records text)) (Err why)
    → IsToldBy settings table.Demand rows text why
demand_cells-told settings rows text why =
    told-by settings table.Demand rows text (demand_verdict settings.period (records text)) _ why refl (verdict-table table.Demand MOST_DEMAND_CELLS demand_columns (demand_cell_of settings.period) (records text))

-- what a start table of an assignment gives, and the agent table of an audit
pub start-with : (settings : Settings) (rows : TableRows) (bytes : List ℕ) → settings.command ≡ command.Assign
    → with_table settings rows table.Start bytes ≡ then_with (start_verdict (records bytes)) (λ start. Ok (record rows { start = start }))
start-with settings rows bytes asks = ap (λ (c : Command). (inputs_of c).with_agents rows bytes) asks

pub agents-with : (settings : Settings) (rows : TableRows) (bytes : List ℕ) → kind_of settings.command ≡ Auditing
    → with_table settings rows table.Start bytes ≡ then_with (agents_verdict (records bytes)) (λ agents. Ok (record rows { agents = agents }))
agents-with settings rows bytes is = ap (λ (k : Kind). (inputs_by k).with_agents rows bytes) is

pub start-told : (settings : Settings) (rows : TableRows) (text : List ℕ) (why : TableRefusal) → settings.command ≡ command.Assign
    → Tells (start_verdict (records text)) (Err why) → IsToldBy settings table.Start rows text why
start-told settings rows text why asks =
    told-by settings table.Start rows text (start_verdict (records text)) _ why (start-with settings rows text asks) (verdict-table table.Start MOST_START_ROWS start_columns start_row_of (records text))

pub agents-told : (settings : Settings) (rows : TableRows) (text : List ℕ) (why : TableRefusal) → kind_of settings.command ≡ Auditing
    → Tells (agents_verdict (records text)) (Err why) → IsToldBy settings table.Start rows text why
agents-told settings rows text why asks =
    told-by settings table.Start rows text (agents_verdict (records text)) _ why (agents-with settings rows text asks) (verdict-table table.Start MOST_AGENT_ROWS agent_columns agent_row_of (records text))

-- the fault of missing link times, and of those that are there
missing-table : (n : ℕ) (r : Result (List TimeRow) TableFault) (f : TableFault) → ((g : TableFault) → r ≡ Err g → g.table ≡ table.Times)
    → then_with r (none_missing n) ≡ Err f → f.table ≡ table.Times
missing-table n (Err g) f own e = own f e
missing-table n (Ok rows) f own e =
    elim (nat_lt (length rows) n) as (λ b. nat_lt (length rows) n ≡ b → f.table ≡ table.Times) [
      | true ↦ λ b. let k = rw b at e in let s : fault_of table.Times (length rows + 2) (complain E13 NoColumn) ≡ f = cc in ap (λ (g : TableFault). g.table) (sym s)
      | false ↦ λ b. let k = rw b at e in absurd cc
    ] refl

times-table : (net : NetRows) (bucket horizon : ℕ) (all : List Record) (f : TableFault) → times_verdict net bucket horizon all ≡ Err f → f.table ≡ table.Times
times-table net bucket horizon all f told =
    missing-table (row_count net bucket horizon) _ f
    (λ g e. verdict-table table.Times MOST_TIME_ROWS times_columns (time_row_of net bucket horizon) all g e) told

pub times-told : (settings : Settings) (rows : TableRows) (net : NetRows) (text : List ℕ) (why : TableRefusal) → net_of rows ≡ net
    → Tells (times_verdict net settings.bucket settings.horizon (records text)) (Err why) → IsToldBy settings table.Times rows text why
times-told settings rows net text why over told =
    told-by settings table.Times rows text (times_verdict (net_of rows) settings.bucket settings.horizon (records text)) _ why refl (times-table (net_of rows) settings.bucket settings.horizon (records text))
    (subst (λ (n : NetRows). Tells (times_verdict n settings.bucket settings.horizon (records text)) (Err why)) (sym over) told)

-- link times over an accepted network
pub times-with : (settings : Settings) (rows : TableRows) (net : NetRows) (text : List ℕ) (times : List TimeRow) → net_of rows ≡ net
    → times_verdict net settings.bucket settings.horizon (records text) ≡ Ok times → with_table settings rows table.Times text ≡ Ok (with_time_rows rows times)
times-with settings rows net text times over is =
    let k : times_verdict (net_of rows) settings.bucket settings.horizon (records text) ≡ Ok times =
    subst (λ (n : NetRows). times_verdict n settings.bucket settings.horizon (records text) ≡ Ok times) (sym over) is in
    rw k refl

-- ---- networks

-- rows that were accepted one table after another make a network
pub joined-net : (nodes : List NodeRow) (links : List (WithWindows LinkRow)) (turns : List (WithWindows TurnRow))
    → AreNodes nodes → AreLinkRows links → All (IsBetween nodes) (rows_of links) → AreTurnRows turns
    → All (IsTurning (rows_of links)) (rows_of turns) → IsNet (net_rows nodes links turns)
joined-net nodes links turns named made between listed turning = record {
  nodes = named;
  links = made.rows;
  between = between;
  turns = listed.rows;
  turning = turning;
  link_windows = made.windows;
  turn_windows = listed.windows;
  of_links = (let a = length-map links (λ link. link.windows) in let b = length-map links (λ link. link.row) in omega (arith, a, b));
  of_turns = (let a = length-map turns (λ turn. turn.windows) in let b = length-map turns (λ turn. turn.row) in omega (arith, a, b));
}
