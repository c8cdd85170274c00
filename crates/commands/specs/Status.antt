-- The numbers with which the program ends. 1 is the runtime's own.
use Rattle.std.specs.Prelude.{ℕ}
use Rattle.reports.specs.declared.refusal.Refusal.{Refusal}
use Rattle.reports.specs.declared.refusal.Refusal.TheVariants as refusal
use Rattle.commands.specs.declared.status.Status.{Status}
use Rattle.commands.specs.declared.status.Status.TheVariants.{Done, Usage, Table, ReadFault}
use Rattle.commands.specs.declared.status.Status.TheVariants.{WriteFault, Memory, Size, Differs}

abbrev pub number_of : Status → ℕ
number_of Done = 0
number_of Usage = 2
number_of Table = 3
number_of ReadFault = 4
number_of WriteFault = 5
number_of Memory = 6
number_of Size = 7
number_of Differs = 8

-- the status of a run that is refused
abbrev pub refusal_status : Refusal → Status
refusal_status refusal.Usage = Usage
refusal_status (refusal.Table _) = Table
refusal_status (refusal.Read _) = ReadFault
refusal_status (refusal.LongTable _) = Size
refusal_status (refusal.Cells _ _) = Size
refusal_status (refusal.Vehicles _ _) = Size
refusal_status (refusal.SkimPairs _) = Size
refusal_status (refusal.SweepCells _ _) = Size
