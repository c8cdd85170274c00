use Rattle.std.proofs.Common.{refl}
use Rattle.jobs.specs.Kinds.{assign_rows}
use Rattle.jobs.proofs.JobFacts.{lent-traffic}
use Rattle.jobs.proofs.assign_job.AssignJob.assignment.Goals as goal

pub returns-clause-is : goal.returns-clause-is
returns-clause-is c = record {
  settings = c.requires.settings;
  traffic = lent-traffic c.args.settings.now (assign_rows c.args.self.now) c.args.self.now.net c.as_slice.result.now c.args.self.now.start
      refl c.as_slice.ensures.value refl c.requires.job;
  workers = c.requires.settings.workers;
}
