-- The phases of a loading, as plain data.
use Rattle.std.specs.Prelude.{◌≡◌, ℕ, ◌<◌, ◌≤◌}
use Rattle.dta_model.specs.Units.{Gather, Posting, Task, Transfer}
use Rattle.dta_model.specs.Units.{phase_end, phase_start, step_of, task_of}
use Rattle.claim_core.specs.declared.phase.Phase.{Phase}
use Rattle.claim_core.specs.declared.phase.PhaseKind.{PhaseKind}
use Rattle.claim_core.specs.declared.phase.PhaseKind.TheVariants as kind

-- what the units of a phase do, by the task of one of them
abbrev pub phase_kind : Task → PhaseKind
phase_kind (Transfer a) = kind.Transfers
phase_kind (Gather a) = kind.Gathers
phase_kind Posting = kind.Posting

-- the phase of unit u with n nodes
abbrev pub phase_of : ℕ → ℕ → Phase
phase_of n u = record {
  first = phase_start n u;
  end = phase_end n u;
  step = step_of n u;
  kind = phase_kind (task_of n u);
}

-- it is the phase of each unit that it has
abbrev pub IsPhase : ℕ → Phase → Type 0
IsPhase n phase = (u : ℕ) → phase.first ≤ u → u < phase.end → phase ≡ phase_of n u
