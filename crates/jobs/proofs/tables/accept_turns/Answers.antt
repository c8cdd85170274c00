use Rattle.std.proofs.Common.{refl}
use Rattle.std.proofs.lemmas.Result.{err_from_is_err_and}
use Rattle.jobs.specs.Calls.{rows_in_roads}
use Rattle.jobs.proofs.ChainFacts.{reads-stopped, reads-done}
use Rattle.jobs.proofs.TableFacts.{accepted-at, stop-at, turns-told}
use Rattle.jobs.proofs.tables.accept_turns.Goals as goal

pub returns-in_err-bytes-clause-reads : goal.returns-in_err-bytes-clause-reads
returns-in_err-bytes-clause-reads g c =
    let p = err_from_is_err_and c.from_residual.result c.from_residual.ensures.1 in
    let r = c.in_err-bytes.ensures.reads c.args.settings.now (rows_in_roads c.args.roads.now) in
    rw (p.1, p.2) (reads-stopped r r.stops)

pub returns-in_err-turns_in-clause-reads : goal.returns-in_err-turns_in-clause-reads
returns-in_err-turns_in-clause-reads g c =
    let p = err_from_is_err_and c.from_residual-in_err-turns_in.result c.from_residual-in_err-turns_in.ensures.1 in
    let r = c.in_ok-bytes.ensures.reads c.args.settings.now (rows_in_roads c.args.roads.now) in
    rw (p.1, p.2) (reads-stopped r (stop-at c.args.settings.now _ (rows_in_roads c.args.roads.now) c.in_ok-bytes.bytes.items c.deref.result.now _ _ c.in_err-turns_in.field-0.0
    r.done.read r.done.short c.deref.ensures.value (turns-told c.args.settings.now (rows_in_roads c.args.roads.now) c.deref.result.now c.in_err-turns_in.field-0.0 c.in_err-turns_in.ensures.refused)))

pub returns-clause-reads : goal.returns-clause-reads
returns-clause-reads g c =
    let r = c.in_ok-bytes.ensures.reads c.args.settings.now (rows_in_roads c.args.roads.now) in
    reads-done r (accepted-at c.args.settings.now _ (rows_in_roads c.args.roads.now) _ c.in_ok-bytes.bytes.items c.deref.result.now _ _
    r.done.read r.done.short c.deref.ensures.value (rw (c.in_ok-turns_in.ensures.turns) refl))
