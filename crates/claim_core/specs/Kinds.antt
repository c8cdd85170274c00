-- What a unit does, as plain data.
use Rattle.dta_model.specs.Units.{Gather, Posting, Task, Transfer}
use Rattle.std.specs.Prelude.{ℕ, None, Option, Some}
use Rattle.claim_core.specs.declared.units.UnitKind.{UnitKind}
use Rattle.claim_core.specs.declared.units.UnitKind.TheVariants as kind
use Rattle.node_transfer.specs.declared.half.Half.TheVariants as Half
use Rattle.node_transfer.specs.declared.half.HalfStep.{HalfStep}

abbrev pub kind_by : Task → UnitKind
kind_by (Transfer a) = kind.Transfer (record { 0 = a })
kind_by (Gather a) = kind.Gather (record { 0 = a })
kind_by Posting = kind.Posting

-- the half of a node's step that a task of step t is: a posting is none
abbrev pub half_by : ℕ → Task → Option HalfStep
half_by t (Transfer a) =
    Some (record { half = Half.Transfer; node = record { 0 = a }; step = t })
half_by t (Gather a) = Some (record { half = Half.Gather; node = record { 0 = a }; step = t })
half_by t Posting = None
