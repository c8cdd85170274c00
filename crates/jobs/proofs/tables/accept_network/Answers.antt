use Rattle.std.proofs.Common.{[], ◌∷◌}
use Rattle.std.proofs.lemmas.Result.{err_from_is_err_and}
use Rattle.desk_io.specs.declared.desk.Table.TheVariants as table
use Rattle.jobs.specs.Calls.{rows_in_roads}
use Rattle.jobs.specs.TableRows.{no_rows, road_tables}
use Rattle.gmns_tables.specs.Net.{listed_turns}
use Rattle.jobs.proofs.TableFacts.{joined-net}
use Rattle.jobs.proofs.ChainFacts.{accepted-both, accepted-one, among-first, among-then, reads-both, reads-done, reads-stopped}
use Rattle.jobs.proofs.tables.accept_network.Goals as goal

pub returns-in_err-roads-clause-reads : goal.returns-in_err-roads-clause-reads
returns-in_err-roads-clause-reads g c =
    let p = err_from_is_err_and c.from_residual.result c.from_residual.ensures.1 in
    let r = c.in_err-roads.ensures.reads in
    rw (p.1, p.2) (reads-stopped r (among-first c.args.settings.now road_tables (table.Movement ∷ []) no_rows _ _ _ r.stops))

pub returns-in_err-turns-clause-reads : goal.returns-in_err-turns-clause-reads
returns-in_err-turns-clause-reads g c =
    let p = err_from_is_err_and c.from_residual-in_err-turns.result c.from_residual-in_err-turns.ensures.1 in
    let r = c.in_ok-roads.ensures.reads in
    let t = c.in_err-turns.ensures.reads in
    rw (p.1, p.2) (reads-stopped (reads-both r t) (among-then c.args.settings.now road_tables [] table.Movement no_rows
    (rows_in_roads c.in_ok-roads.roads) _ _ _ _ r.done r.later t.stops))

pub returns-clause-reads : goal.returns-clause-reads
returns-clause-reads g c =
    let roads = rows_in_roads c.in_ok-roads.roads in
    let r = c.in_ok-roads.ensures.reads in
    let t = c.in_ok-turns.ensures.reads in
    reads-done (reads-both r t) (accepted-both c.args.settings.now road_tables (table.Movement ∷ []) no_rows roads _ _ _ _ r.done
    (accepted-one c.args.settings.now table.Movement roads _ _ _ t.done))

pub returns-clause-net : goal.returns-clause-net
returns-clause-net g c =
    joined-net c.in_ok-roads.roads.nodes c.in_ok-roads.roads.links (listed_turns c.in_ok-turns.turns) c.in_ok-roads.ensures.nodes
    c.in_ok-roads.ensures.links c.in_ok-roads.ensures.between c.in_ok-turns.ensures.sound c.in_ok-turns.ensures.turning
