-- What stops a run before its work.
use Rattle.std.specs.Prelude.{◌≡◌, ⊤, List}
use Rattle.desk_io.specs.declared.desk.Table.{Table}
use Rattle.desk_io.specs.Transfers.{IsBegun, IsLong}
use Rattle.row_reader.specs.declared.faults.TableRefusal.{TableRefusal}
use Rattle.row_reader.specs.declared.faults.TableRefusal.TheVariants as table_refusal
use Rattle.reports.specs.declared.refusal.Refusal.TheVariants as refusal
use Rattle.desk_io.specs.declared.transfers.TheConstants.{MOST_TABLE_BYTES}
use Rattle.dta_words.specs.declared.command.Settings.{Settings}
use Rattle.jobs.specs.declared.stop.Stop.{Stop}
use Rattle.jobs.specs.declared.stop.Stop.TheVariants.{Refused, Memory}
use Rattle.vehicle_release.specs.declared.fault.ReleaseFault.{ReleaseFault}
use Rattle.vehicle_release.specs.declared.fault.ReleaseFault.TheVariants as release
use Rattle.scaled_demand.specs.declared.fault.SweepFault.{SweepFault}
use Rattle.scaled_demand.specs.declared.fault.SweepFault.TheVariants as sweep
use Rattle.jobs.specs.TableRows.{TableRows}
use Rattle.jobs.specs.Limits.{Limits}
use Rattle.jobs.specs.Causes.{EndsForMemory, IsCause, ReadsFailed}
use Rattle.jobs.specs.Reading.{ReadState}
use Rattle.jobs.specs.Tables.{IsFaulty, ReachedAmong}

-- what a refused table stops
abbrev pub stop_of : TableRefusal → Stop
stop_of (table_refusal.Fault fault) = Refused (refusal.Table fault)
stop_of table_refusal.Memory = Memory

-- and what trips that weren't released stop
abbrev pub stop_at_release : ReleaseFault → Stop
stop_at_release (release.TooMany line total) = Refused (refusal.Vehicles line total)
stop_at_release release.Memory = Memory

-- and what scenarios with too many vehicles stop
abbrev pub stop_at_scale : SweepFault → Stop
stop_at_scale (sweep.TooMany scenario line total) = Refused (refusal.Vehicles line total)
stop_at_scale sweep.Memory = Memory

-- the reading stopped at a table, where these rows were accepted before
abbrev pub StopsAt : Settings → Table → TableRows → Stop → ReadState → ReadState → Type 0
StopsAt settings t rows Memory before after = IsBegun t before.left after.left
StopsAt settings t rows (Refused refusal.Usage) before after = ⊥
StopsAt settings t rows (Refused (refusal.Table fault)) before after =
    (fault.table ≡ t) × IsFaulty settings fault t rows before.left after.left
StopsAt settings t rows (Refused (refusal.Read u)) before after =
    (u ≡ t) × IsBegun t before.left after.left × ReadsFailed before after
StopsAt settings t rows (Refused (refusal.LongTable u)) before after =
    (u ≡ t) × IsLong t MOST_TABLE_BYTES before.left after.left
StopsAt settings t rows (Refused (refusal.Cells links steps)) before after = ⊥
StopsAt settings t rows (Refused (refusal.Vehicles line total)) before after = ⊥
StopsAt settings t rows (Refused (refusal.SkimPairs number)) before after = ⊥
StopsAt settings t rows (Refused (refusal.SweepCells links steps)) before after = ⊥

-- the reading of these tables ended in this stop, at one of them
abbrev pub StopsAmong : Settings → List Table → TableRows → Stop → ReadState → ReadState → Type 0
StopsAmong settings tables rows stop before after =
    (t : Table) × ReachedAmong settings tables t (λ rows left rest.
    StopsAt settings t rows stop (record before { left = left }) (record after { left = rest }))
    rows before.left after.left

-- the rows of a command's tables are past one of these limits, or memory was wanting for their job
abbrev pub StopsPast : Limits → Settings → TableRows → Stop → Type 0
StopsPast limits s rows Memory = ⊤
StopsPast limits s rows (Refused (refusal.Cells links steps)) =
    limits.past s rows (refusal.Cells links steps)
StopsPast limits s rows (Refused (refusal.Vehicles line total)) =
    limits.past s rows (refusal.Vehicles line total)
StopsPast limits s rows (Refused (refusal.SkimPairs number)) =
    limits.past s rows (refusal.SkimPairs number)
StopsPast limits s rows (Refused (refusal.SweepCells links steps)) =
    limits.past s rows (refusal.SweepCells links steps)
StopsPast limits s rows (Refused _) = ⊥

-- the reading of a command's tables ended in this stop
abbrev pub Stops : Settings → Stop → ReadState → ReadState → Type 0
Stops s Memory before after = EndsForMemory s before after
Stops s (Refused r) before after = IsCause s r before after
