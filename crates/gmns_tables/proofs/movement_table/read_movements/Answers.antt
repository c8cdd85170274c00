use Rattle.std.specs.Prelude.{Ok}
use Rattle.desk_io.specs.declared.desk.Table.TheVariants as table
use Rattle.std.proofs.lemmas.List.Elements.{All-map}
use Rattle.net_core.specs.Rows.{IsTurning}
use Rattle.net_core.specs.declared.rows.TurnRow.{TurnRow}
use Rattle.gmns_tables.specs.RowsWithWindows.{rows_of}
use Rattle.gmns_tables.specs.declared.with_windows.WithWindows.{WithWindows}
use Rattle.net_core.specs.declared.rows.TheConstants.{MOST_TURNS}
use Rattle.gmns_tables.specs.Movements.{movement_of, movement_columns}
use Rattle.gmns_tables.proofs.TurningFacts.{movement_of-turning}
use Rattle.gmns_tables.proofs.TableFacts.{tells-all}
use Rattle.gmns_tables.proofs.movement_table.read_movements.Goals as goal

pub returns-clause-turning : goal.returns-clause-turning
returns-clause-turning c =
    let links = rows_of c.args.links.now in
    All-map (IsTurning links) (λ (turn : WithWindows TurnRow). turn.row) c.in_ok-table.table.rows
    (tells-all (λ (turn : WithWindows TurnRow). IsTurning links turn.row) table.Movement MOST_TURNS movement_columns (movement_of c.args.nodes.now links c.args.units.now)
    (movement_of-turning c.args.nodes.now links c.args.units.now) _ (Ok c.in_ok-table.table.rows) c.in_ok-table.ensures)
