use Rattle.std.proofs.Common.{refl, ◌∙◌}
use Rattle.std.proofs.lemmas.Result.{err_from_is_err_and}
use Rattle.jobs.proofs.ChainFacts.{reads-stopped, reads-done}
use Rattle.jobs.proofs.TableFacts.{accepted-at, agents-with, stop-at, agents-told}
use Rattle.jobs.proofs.tables.accept_agents.Goals as goal

pub returns-in_err-bytes : goal.returns-in_err-bytes
returns-in_err-bytes g c =
    let p = err_from_is_err_and c.from_residual.result c.from_residual.ensures.1 in
    rw (p.1, p.2) (record {
      reads = λ settings rows asks.
          let r = c.in_err-bytes.ensures.reads settings rows in
          reads-stopped r r.stops;
    })

pub returns-in_err-read_agents : goal.returns-in_err-read_agents
returns-in_err-read_agents g c =
    let p = err_from_is_err_and c.from_residual-in_err-read_agents.result c.from_residual-in_err-read_agents.ensures.1 in
    rw (p.1, p.2) (record {
      reads = λ settings rows asks.
          let r = c.in_ok-bytes.ensures.reads settings rows in
          reads-stopped r (stop-at settings _ rows c.in_ok-bytes.bytes.items c.deref.result.now _ _ c.in_err-read_agents.field-0.0
          r.done.read r.done.short c.deref.ensures.value (agents-told settings rows c.deref.result.now c.in_err-read_agents.field-0.0 asks c.in_err-read_agents.ensures));
    })

pub returns : goal.returns
returns g c = record {
  reads = λ settings rows asks.
      let r = c.in_ok-bytes.ensures.reads settings rows in
      reads-done r (accepted-at settings _ rows _ c.in_ok-bytes.bytes.items c.deref.result.now _ _
      r.done.read r.done.short c.deref.ensures.value (agents-with settings rows c.deref.result.now asks ∙ (rw (c.in_ok-read_agents.ensures) refl)));
}
