use Rattle.std.proofs.Common.{refl}
use Rattle.std.proofs.lemmas.Result.{err_from_is_err_and}
use Rattle.jobs.specs.TableRows.{no_rows}
use Rattle.jobs.proofs.ChainFacts.{reads-stopped, reads-done}
use Rattle.jobs.proofs.TableFacts.{accepted-at, stop-at, nodes-told}
use Rattle.jobs.proofs.tables.accept_nodes.Goals as goal

pub returns-in_err-bytes-clause-reads : goal.returns-in_err-bytes-clause-reads
returns-in_err-bytes-clause-reads g c = λ settings.
    let p = err_from_is_err_and c.from_residual.result c.from_residual.ensures.1 in
    let r = c.in_err-bytes.ensures.reads settings no_rows in
    rw (p.1, p.2) (reads-stopped r r.stops)

pub returns-in_err-read_nodes-clause-reads : goal.returns-in_err-read_nodes-clause-reads
returns-in_err-read_nodes-clause-reads g c = λ settings.
    let p = err_from_is_err_and c.from_residual-in_err-read_nodes.result c.from_residual-in_err-read_nodes.ensures.1 in
    let r = c.in_ok-bytes.ensures.reads settings no_rows in
    rw (p.1, p.2) (reads-stopped r (stop-at settings _ no_rows c.in_ok-bytes.bytes.items c.deref.result.now _ _ c.in_err-read_nodes.field-0.0
    r.done.read r.done.short c.deref.ensures.value (nodes-told settings no_rows c.deref.result.now c.in_err-read_nodes.field-0.0 c.in_err-read_nodes.ensures.rows)))

pub returns-clause-reads : goal.returns-clause-reads
returns-clause-reads g c = λ settings.
    let r = c.in_ok-bytes.ensures.reads settings no_rows in
    reads-done r (accepted-at settings _ no_rows _ c.in_ok-bytes.bytes.items c.deref.result.now _ _
    r.done.read r.done.short c.deref.ensures.value (rw (c.in_ok-read_nodes.ensures.rows) refl))
