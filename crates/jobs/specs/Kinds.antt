-- The jobs of the commands as one record: what a command doesn't take is empty.
use Rattle.std.specs.Prelude.{◌≡◌, []}
use Rattle.dta_words.specs.declared.command.Command.{Command}
use Rattle.net_core.specs.declared.rows.NetRows.{NetRows}
use Rattle.jobs.specs.Inputs.{Assigns, Auditing, FreeFlow, Skimming, Sweeping, kind_of}
use Rattle.jobs.specs.Jobs.{JobRows}
use Rattle.jobs.specs.declared.assign_job.AssignJob.{AssignJob}
use Rattle.jobs.specs.declared.audit_job.AuditJob.{AuditJob}
use Rattle.jobs.specs.declared.job.Job.{Job}
use Rattle.jobs.specs.declared.job.Job.TheVariants.{Freeflow, Assign, Skim, Sweep, Audit}
use Rattle.jobs.specs.declared.skim_job.SkimJob.{SkimJob}
use Rattle.jobs.specs.declared.sweep_job.SweepJob.{SweepJob}

abbrev pub free_rows : NetRows → JobRows
free_rows net =
    record { net = net; trips = []; start = []; times = []; demand_cells = []; agents = [] }

abbrev pub assign_rows : AssignJob → JobRows
assign_rows job = record (free_rows job.net) { trips = job.trips.items; start = job.start }

abbrev pub skim_rows : SkimJob → JobRows
skim_rows job = record (free_rows job.net) { times = job.times }

abbrev pub sweep_rows : SweepJob → JobRows
sweep_rows job = record (free_rows job.net) { demand_cells = job.demand_cells.items }

abbrev pub audit_rows : AuditJob → JobRows
audit_rows job =
    record (free_rows job.net) { trips = job.trips.items; times = job.times; agents = job.agents }

abbrev pub rows_in_job : Job → JobRows
rows_in_job (Freeflow net) = free_rows net
rows_in_job (Assign job) = assign_rows job
rows_in_job (Skim job) = skim_rows job
rows_in_job (Sweep job) = sweep_rows job
rows_in_job (Audit job) = audit_rows job

-- a job is of this command
abbrev pub IsFor : Command → Job → Type 0
IsFor c (Freeflow net) = kind_of c ≡ FreeFlow
IsFor c (Assign job) = Assigns c
IsFor c (Skim job) = kind_of c ≡ Skimming
IsFor c (Sweep job) = kind_of c ≡ Sweeping
IsFor c (Audit job) = kind_of c ≡ Auditing
