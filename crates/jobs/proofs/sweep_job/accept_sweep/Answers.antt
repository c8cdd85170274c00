use Rattle.std.proofs.lemmas.Result.{err_from_is_err_and}
use Rattle.jobs.specs.Inputs.{Sweeping}
use Rattle.jobs.specs.Calls.{rows_in_tables}
use Rattle.jobs.specs.Kinds.{rows_in_job}
use Rattle.jobs.proofs.ChainFacts.{reads-stopped, reads-so}
use Rattle.jobs.proofs.JobFacts.{among, asked-for, own-jobs, sized}
use Rattle.jobs.proofs.sweep_job.accept_sweep.Goals as goal

pub returns-in_err-tables-clause-reads : goal.returns-in_err-tables-clause-reads
returns-in_err-tables-clause-reads g c =
    let p = err_from_is_err_and c.from_residual.result c.from_residual.ensures.1 in
    let r = c.in_err-tables.ensures.reads in
    rw (p.1, p.2) (reads-stopped r (among c.args.settings.now (asked-for c.args.settings.now Sweeping c.requires.kind) (g.D.Desk.state c.args.desk.now) (g.D.Desk.state c.accept_all.new.desk) _ r.stops))

pub returns-clause-reads : goal.returns-clause-reads
returns-clause-reads g c =
    let t = c.in_ok-tables.tables in
    let s = c.args.settings.now in
    let r = c.in_ok-tables.ensures.reads in
    let has = asked-for s Sweeping c.requires.kind in
    reads-so r
    (own-jobs s has rows_in_job (rows_in_tables t) c.sweep_job_of.result _ _ r.done c.sweep_job_of.ensures.within c.sweep_job_of.ensures.makes)
    (sized s has (g.D.Desk.state c.args.desk.now) (g.D.Desk.state c.accept_all.new.desk) (rows_in_tables t)
    c.sweep_job_of.result r.done c.sweep_job_of.ensures.stops)
