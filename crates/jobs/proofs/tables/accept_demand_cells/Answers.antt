use Rattle.std.proofs.Common.{refl}
use Rattle.std.proofs.lemmas.Result.{err_from_is_err_and}
use Rattle.jobs.proofs.ChainFacts.{reads-stopped, reads-done}
use Rattle.jobs.proofs.TableFacts.{accepted-at, stop-at, demand_cells-told}
use Rattle.jobs.proofs.tables.accept_demand_cells.Goals as goal

pub returns-in_err-bytes-clause-reads : goal.returns-in_err-bytes-clause-reads
returns-in_err-bytes-clause-reads g c = λ rows.
    let settings = c.args.settings.now in
    let p = err_from_is_err_and c.from_residual.result c.from_residual.ensures.1 in
    let r = c.in_err-bytes.ensures.reads settings rows in
    rw (p.1, p.2) (reads-stopped r r.stops)

pub returns-in_err-read_demand-clause-reads : goal.returns-in_err-read_demand-clause-reads
returns-in_err-read_demand-clause-reads g c = λ rows.
    let settings = c.args.settings.now in
    let p = err_from_is_err_and c.from_residual-in_err-read_demand.result c.from_residual-in_err-read_demand.ensures.1 in
    let r = c.in_ok-bytes.ensures.reads settings rows in
    rw (p.1, p.2) (reads-stopped r (stop-at settings _ rows c.in_ok-bytes.bytes.items c.deref.result.now _ _ c.in_err-read_demand.field-0.0
    r.done.read r.done.short c.deref.ensures.value (demand_cells-told settings rows c.deref.result.now c.in_err-read_demand.field-0.0 c.in_err-read_demand.ensures.refused)))

pub returns-clause-reads : goal.returns-clause-reads
returns-clause-reads g c = λ rows.
    let settings = c.args.settings.now in
    let r = c.in_ok-bytes.ensures.reads settings rows in
    reads-done r (accepted-at settings _ rows _ c.in_ok-bytes.bytes.items c.deref.result.now _ _
    r.done.read r.done.short c.deref.ensures.value (rw (c.in_ok-read_demand.ensures.cells) refl))
