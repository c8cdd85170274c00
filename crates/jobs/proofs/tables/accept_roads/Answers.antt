use Rattle.std.proofs.Common.{[], ◌∷◌}
use Rattle.std.proofs.lemmas.Result.{err_from_is_err_and}
use Rattle.desk_io.specs.declared.desk.Table.TheVariants as table
use Rattle.jobs.specs.TableRows.{no_rows, road_rows}
use Rattle.jobs.proofs.ChainFacts.{accepted-both, accepted-one, among-now, among-then, reads-both, reads-done, reads-stopped}
use Rattle.jobs.proofs.tables.accept_roads.Goals as goal

pub returns-in_err-nodes-clause-reads : goal.returns-in_err-nodes-clause-reads
returns-in_err-nodes-clause-reads g c =
    let p = err_from_is_err_and c.from_residual.result c.from_residual.ensures.1 in
    let r = c.in_err-nodes.ensures.reads c.args.settings.now in
    rw (p.1, p.2) (reads-stopped r (among-now c.args.settings.now table.Node (table.Link ∷ []) no_rows _ _ _ r.stops))

pub returns-in_err-links-clause-reads : goal.returns-in_err-links-clause-reads
returns-in_err-links-clause-reads g c =
    let p = err_from_is_err_and c.from_residual-in_err-links.result c.from_residual-in_err-links.ensures.1 in
    let n = c.in_ok-nodes.ensures.reads c.args.settings.now in
    let l = c.in_err-links.ensures.reads in
    rw (p.1, p.2) (reads-stopped (reads-both n l) (among-then c.args.settings.now (table.Node ∷ []) [] table.Link no_rows (road_rows c.in_ok-nodes.nodes []) _ _ _ _
    (accepted-one c.args.settings.now table.Node no_rows _ _ _ n.done) n.later l.stops))

pub returns-clause-reads : goal.returns-clause-reads
returns-clause-reads g c =
    let n = c.in_ok-nodes.ensures.reads c.args.settings.now in
    let l = c.in_ok-links.ensures.reads in
    reads-done (reads-both n l) (accepted-both c.args.settings.now (table.Node ∷ []) (table.Link ∷ []) no_rows (road_rows c.in_ok-nodes.nodes []) _ _ _ _
    (accepted-one c.args.settings.now table.Node no_rows _ _ _ n.done)
    (accepted-one c.args.settings.now table.Link (road_rows c.in_ok-nodes.nodes []) _ _ _ l.done))
