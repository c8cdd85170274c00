use Rattle.std.proofs.Common.{inl, inr}
use Rattle.jobs.proofs.job.accept.Goals as goal

pub returns-in-Freeflow-clause-reads : goal.returns-in-Freeflow-clause-reads
returns-in-Freeflow-clause-reads g c = rw (c.in-Freeflow.is) (rw (c.in-Freeflow.is) at c.accept_free.ensures.reads)

pub returns-in-Assign-clause-reads : goal.returns-in-Assign-clause-reads
returns-in-Assign-clause-reads g c = elim c.in-Assign.is [
  | inl is ↦ rw is (rw is at c.accept_tables.ensures.reads)
  | inr is ↦ rw is (rw is at c.accept_tables.ensures.reads)
]

pub returns-in-Skim-clause-reads : goal.returns-in-Skim-clause-reads
returns-in-Skim-clause-reads g c = rw (c.in-Skim.is) (rw (c.in-Skim.is) at c.accept_skim.ensures.reads)

pub returns-in-Demo-clause-reads : goal.returns-in-Demo-clause-reads
returns-in-Demo-clause-reads g c = c.accept_grid.ensures.reads _

pub returns-in-Sweep-clause-reads : goal.returns-in-Sweep-clause-reads
returns-in-Sweep-clause-reads g c = rw (c.in-Sweep.is) (rw (c.in-Sweep.is) at c.accept_sweep.ensures.reads)

pub returns-in-Audit-clause-reads : goal.returns-in-Audit-clause-reads
returns-in-Audit-clause-reads g c = rw (c.in-Audit.is) (rw (c.in-Audit.is) at c.accept_audit.ensures.reads)
