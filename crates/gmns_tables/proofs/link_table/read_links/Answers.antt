use Rattle.std.specs.Prelude.{Ok}
use Rattle.desk_io.specs.declared.desk.Table.TheVariants as table
use Rattle.std.proofs.lemmas.List.Elements.{All-map}
use Rattle.net_core.specs.Rows.{IsBetween}
use Rattle.net_core.specs.declared.rows.LinkRow.{LinkRow}
use Rattle.gmns_tables.specs.declared.with_windows.WithWindows.{WithWindows}
use Rattle.net_core.specs.declared.rows.TheConstants.{MOST_LINKS}
use Rattle.gmns_tables.specs.Links.{link_of, link_columns}
use Rattle.gmns_tables.proofs.BetweenFacts.{link_of-between}
use Rattle.gmns_tables.proofs.TableFacts.{tells-all}
use Rattle.gmns_tables.proofs.link_table.read_links.Goals as goal

pub returns-clause-between : goal.returns-clause-between
returns-clause-between c =
    All-map (IsBetween c.args.nodes.now) (λ (link : WithWindows LinkRow). link.row) c.in_ok-table.table.rows
    (tells-all (λ (link : WithWindows LinkRow). IsBetween c.args.nodes.now link.row) table.Link MOST_LINKS link_columns (link_of c.args.nodes.now c.args.units.now)
    (link_of-between c.args.nodes.now c.args.units.now) _ (Ok c.in_ok-table.table.rows) c.in_ok-table.ensures)
