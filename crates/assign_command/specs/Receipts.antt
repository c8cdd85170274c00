-- The receipts that the loadings of a run give its gate.
use Rattle.std.specs.Prelude.{ℕ, ◌≡◌, ◌≤◌, ◌*◌, suc, zero, Bool, true, false, length, List, None}
use Rattle.std.specs.Prelude.{Result, OnOk, OnErr}
use Rattle.dta_model.specs.Units.{step_units}
use Rattle.dta_model.specs.declared.loaded.Journey.{Journey}
use Rattle.dta_words.specs.declared.command.Command.{Command}
use Rattle.dta_words.specs.declared.command.Settings.{Settings}
use Rattle.loader.specs.Gates.{GateState, Numbers, taking}
use Rattle.assignment.specs.Assignment.{Traffic}
use Rattle.assignment.specs.Lent.{settings_in, traffic_in}
use Rattle.assignment.specs.declared.lent.Assignment.{Assignment}
use Rattle.jobs.specs.Inputs.{Assigning, Kind, kind_of}
use Rattle.jobs.specs.Jobs.{JobRows, traffic_of}
use Rattle.commands.specs.declared.status.Status.{Status}
use Rattle.commands.specs.declared.status.Status.TheVariants as status
use Rattle.assign_command.specs.declared.halt.Halt.{Halt}

-- the numbers of the receipt of each loading: the units of all steps, a pass for each worker, and
-- the vehicles
abbrev pub numbers_in : Settings → Traffic → Numbers
numbers_in s traffic = record {
  units = s.horizon * step_units (length traffic.net.nodes);
  passes = s.workers;
  vehicles = length traffic.trips;
}

-- how many of so many loadings are by workers: all, and none where the loader is plain
abbrev pub by_workers : (plain : Bool) → ℕ → ℕ
by_workers true loadings = 0
by_workers false loadings = loadings

-- how many the whole work of a command gives: one for each loading by workers
abbrev pub receipts_by : Kind → Settings → ℕ
receipts_by Assigning s = by_workers s.plain s.iterations
receipts_by _ s = 0

abbrev pub receipts_in : Command → Settings → ℕ
receipts_in c s = receipts_by (kind_of c) s

-- the gate took so many receipts with these numbers, one after another
abbrev pub taking_all : ℕ → Numbers → GateState → GateState
taking_all zero numbers gate = gate
taking_all (suc n) numbers gate = taking numbers (taking_all n numbers gate)

-- it took at most so many
abbrev pub TookAtMost : ℕ → Numbers → GateState → GateState → Type 0
TookAtMost most numbers gate now =
    (n : ℕ) × (n ≤ most) × (now ≡ taking_all n numbers gate)

-- a call gave the gate so many receipts where it is done, and otherwise at most so many
pub record Gives {T E : Type 0} (n : ℕ) (numbers : Numbers) (gate now : GateState)
    (result : Result T E) : Type 0 where
  pub all : OnOk result (now ≡ taking_all n numbers gate)
  pub some : OnErr result (TookAtMost n numbers gate now)

-- a loading of an iteration gave the gate its receipt, where it was by workers
abbrev pub GivesOne : Assignment → GateState → GateState → Result (List Journey) Halt → Type 0
GivesOne a gate now result =
    Gives (by_workers (settings_in a).plain 1) (numbers_in (settings_in a) (traffic_in a)) gate now
    result

-- all that is seen of a gate that tells nothing
abbrev pub silent : GateState
silent = record { closes = None; last = None }

-- the receipts of the work over a job, by the status with which it ended
abbrev pub WorkGives : Settings → JobRows → Status → GateState → GateState → Type 0
WorkGives s job status.Done gate now =
    now ≡ taking_all (receipts_in s.command s) (numbers_in s (traffic_of job)) gate
WorkGives s job _ gate now =
    TookAtMost (receipts_in s.command s) (numbers_in s (traffic_of job)) gate now
