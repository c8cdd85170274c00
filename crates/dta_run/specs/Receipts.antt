-- The receipts that a run gives its gate.
use Rattle.std.specs.Prelude.{ℕ, ◌≡◌, ◌⊎◌, Bool, false, not, List}
use Rattle.desk_io.specs.State.{DeskState}
use Rattle.dta_words.specs.declared.command.Settings.{Settings}
use Rattle.loader.specs.Gates.{GateState}
use Rattle.jobs.specs.Inputs.{Assigning, Auditing, FreeFlow, Kind, Skimming, Sweeping, kind_of}
use Rattle.jobs.specs.Verdict.{Accepted, Refused, Verdict}
use Rattle.commands.specs.declared.status.Status.{Status}
use Rattle.commands.specs.declared.status.Status.TheVariants as status
use Rattle.assign_command.specs.Receipts.{WorkGives}
use Rattle.dta_run.specs.Outcome.{HasJob}

-- whether work of a kind takes workers: an assignment does, unless its loader is plain
abbrev pub takes_by : Kind → (plain : Bool) → Bool
takes_by FreeFlow plain = false
takes_by Assigning plain = not plain
takes_by Skimming plain = false
takes_by Sweeping plain = false
takes_by Auditing plain = false

-- whether a run with these settings takes workers
abbrev pub takes_workers : Settings → Bool
takes_workers s = takes_by (kind_of s.command) s.plain

-- the words have an accepted job, whose work ended with this status and gave the gate its receipts
abbrev pub JobGives :
    List (List ℕ) → Status → DeskState → DeskState → GateState → GateState → Type 0
JobGives words answer before after gate now =
    HasJob words before after (λ s job. WorkGives s job answer gate now)

-- the receipts of a run by its status: where all is done one for each iteration that is loaded by
-- workers, where a put failed or memory was wanting at most as many, and none where it was refused
abbrev pub RunGives :
    List (List ℕ) → Status → DeskState → DeskState → GateState → GateState → Type 0
RunGives words status.Done before after gate now =
    JobGives words status.Done before after gate now
RunGives words status.WriteFault before after gate now =
    JobGives words status.WriteFault before after gate now
RunGives words status.Memory before after gate now =
    (now ≡ gate) ⊎ JobGives words status.Memory before after gate now
RunGives words _ before after gate now = now ≡ gate

-- the same where the bytes of the tables are told, and so the verdict is known before the run
abbrev pub ToldGives : Verdict → Status → GateState → GateState → Type 0
ToldGives (Refused r) answer gate now = now ≡ gate
ToldGives (Accepted s job) answer gate now = WorkGives s job answer gate now
