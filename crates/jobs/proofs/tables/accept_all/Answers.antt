use Rattle.std.proofs.Common.{[], ◌∷◌}
use Rattle.std.proofs.lemmas.Result.{err_from_is_err_and}
use Rattle.desk_io.specs.declared.desk.Table.TheVariants as table
use Rattle.jobs.specs.Calls.{rows_in_network, with_demand_cells}
use Rattle.jobs.specs.TableRows.{network_tables, no_rows}
use Rattle.jobs.proofs.ChainFacts.{accepted-both, accepted-one, among-first, among-then, reads-both, reads-done, reads-stopped}
use Rattle.jobs.proofs.tables.accept_all.Goals as goal

pub returns-in_err-network-clause-reads : goal.returns-in_err-network-clause-reads
returns-in_err-network-clause-reads g c =
    let p = err_from_is_err_and c.from_residual.result c.from_residual.ensures.1 in
    let r = c.in_err-network.ensures.reads in
    rw (p.1, p.2) (reads-stopped r (among-first c.args.settings.now network_tables (table.Demand ∷ []) no_rows _ _ _ r.stops))

pub returns-in_err-demand_cells-clause-reads : goal.returns-in_err-demand_cells-clause-reads
returns-in_err-demand_cells-clause-reads g c =
    let p = err_from_is_err_and c.from_residual-in_err-demand_cells.result c.from_residual-in_err-demand_cells.ensures.1 in
    let network = rows_in_network c.in_ok-network.network in
    let r = c.in_ok-network.ensures.reads in
    let d = c.in_err-demand_cells.ensures.reads network in
    rw (p.1, p.2) (reads-stopped (reads-both r d) (among-then c.args.settings.now network_tables [] table.Demand no_rows network _ _ _ _ r.done r.later d.stops))

pub returns-clause-reads : goal.returns-clause-reads
returns-clause-reads g c =
    let s = c.args.settings.now in
    let network = rows_in_network c.in_ok-network.network in
    let cells = with_demand_cells network c.in_ok-demand_cells.demand_cells in
    let r = c.in_ok-network.ensures.reads in
    let d = c.in_ok-demand_cells.ensures.reads network in
    reads-done (reads-both r d) (accepted-both s network_tables (table.Demand ∷ []) no_rows network cells _ _ _ r.done
    (accepted-one s table.Demand network cells _ _ d.done))
