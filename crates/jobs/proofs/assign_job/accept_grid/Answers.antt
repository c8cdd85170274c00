use Rattle.std.proofs.Common.{inl, refl, rules}
use Rattle.jobs.specs.Causes.{EndsForMemory}
use Rattle.jobs.specs.Kinds.{rows_in_job}
use Rattle.jobs.specs.Reading.{grid_left}
use Rattle.jobs.proofs.JobFacts.{grid-reading, grid-reads}
use Rattle.jobs.proofs.assign_job.accept_grid.Goals as goal

pub returns-in-Ok-clause-reads : goal.returns-in-Ok-clause-reads
returns-in-Ok-clause-reads c = λ desk.
    grid-reads c.args.settings.now c.args.n c.requires.command desk rows_in_job c.accept_tables.result _ _ (search rules) refl refl c.accept_tables.ensures.reads

pub returns-in-Err-Memory-clause-reads : goal.returns-in-Err-Memory-clause-reads
returns-in-Err-Memory-clause-reads c = λ desk. record {
  done = tt;
  stops = grid-reading c.args.settings.now c.args.n c.requires.command desk (EndsForMemory c.args.settings.now) (grid_left c.args.n) (inl refl);
  later = search rules;
  taken = refl;
  puts = refl;
}
