use Rattle.std.proofs.Common.{[], refl}
use Rattle.std.proofs.lemmas.Result.{err_from_is_err_and}
use Rattle.jobs.specs.TableRows.{road_rows}
use Rattle.jobs.proofs.ChainFacts.{reads-stopped, reads-done}
use Rattle.jobs.proofs.TableFacts.{accepted-at, stop-at, links-told}
use Rattle.jobs.proofs.tables.accept_links.Goals as goal

pub returns-in_err-bytes-clause-reads : goal.returns-in_err-bytes-clause-reads
returns-in_err-bytes-clause-reads g c =
    let p = err_from_is_err_and c.from_residual.result c.from_residual.ensures.1 in
    let r = c.in_err-bytes.ensures.reads c.args.settings.now (road_rows c.args.nodes.now []) in
    rw (p.1, p.2) (reads-stopped r r.stops)

pub returns-in_err-read_links-clause-reads : goal.returns-in_err-read_links-clause-reads
returns-in_err-read_links-clause-reads g c =
    let p = err_from_is_err_and c.from_residual-in_err-read_links.result c.from_residual-in_err-read_links.ensures.1 in
    let r = c.in_ok-bytes.ensures.reads c.args.settings.now (road_rows c.args.nodes.now []) in
    rw (p.1, p.2) (reads-stopped r (stop-at c.args.settings.now _ (road_rows c.args.nodes.now []) c.in_ok-bytes.bytes.items c.deref.result.now _ _ c.in_err-read_links.field-0.0
    r.done.read r.done.short c.deref.ensures.value (links-told c.args.settings.now (road_rows c.args.nodes.now []) c.deref.result.now c.in_err-read_links.field-0.0 c.in_err-read_links.ensures.rows)))

pub returns-clause-reads : goal.returns-clause-reads
returns-clause-reads g c =
    let r = c.in_ok-bytes.ensures.reads c.args.settings.now (road_rows c.args.nodes.now []) in
    reads-done r (accepted-at c.args.settings.now _ (road_rows c.args.nodes.now []) _ c.in_ok-bytes.bytes.items c.deref.result.now _ _
    r.done.read r.done.short c.deref.ensures.value (rw (c.in_ok-read_links.ensures.rows) refl))
