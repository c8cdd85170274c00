use Rattle.std.proofs.lemmas.Result.{err_from_is_err_and}
use Rattle.jobs.proofs.ChainFacts.{reads-stopped, reads-done}
use Rattle.jobs.proofs.TableFacts.{accepted-at, times-with, stop-at, times-told}
use Rattle.jobs.proofs.tables.accept_times.Goals as goal

pub returns-in_err-bytes-clause-reads : goal.returns-in_err-bytes-clause-reads
returns-in_err-bytes-clause-reads g c = λ rows over.
    let p = err_from_is_err_and c.from_residual.result c.from_residual.ensures.1 in
    let r = c.in_err-bytes.ensures.reads c.args.settings.now rows in
    rw (p.1, p.2) (reads-stopped r r.stops)

pub returns-in_err-read_times-clause-reads : goal.returns-in_err-read_times-clause-reads
returns-in_err-read_times-clause-reads g c = λ rows over.
    let p = err_from_is_err_and c.from_residual-in_err-read_times.result c.from_residual-in_err-read_times.ensures.1 in
    let r = c.in_ok-bytes.ensures.reads c.args.settings.now rows in
    rw (p.1, p.2) (reads-stopped r (stop-at c.args.settings.now _ rows c.in_ok-bytes.bytes.items c.deref.result.now _ _ c.in_err-read_times.field-0.0
    r.done.read r.done.short c.deref.ensures.value (times-told c.args.settings.now rows c.args.net.now c.deref.result.now c.in_err-read_times.field-0.0 over c.in_err-read_times.ensures.refused)))

pub returns-clause-reads : goal.returns-clause-reads
returns-clause-reads g c = λ rows over.
    let r = c.in_ok-bytes.ensures.reads c.args.settings.now rows in
    reads-done r (accepted-at c.args.settings.now _ rows _ c.in_ok-bytes.bytes.items c.deref.result.now _ _
    r.done.read r.done.short c.deref.ensures.value (times-with c.args.settings.now rows c.args.net.now c.deref.result.now c.in_ok-read_times.field-0 over c.in_ok-read_times.ensures.rows))
