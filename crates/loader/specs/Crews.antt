-- The pass of a crew, lent in an option, and what a worker's pass holds.
use Rattle.std.specs.Prelude.{◌≡◌, ℕ, Option, Some, None}
use Rattle.dta_model.specs.Machine.{first_in}
use Rattle.dta_model.specs.declared.machine.Stage.{Stage}
use Rattle.dta_model.specs.declared.machine.Stage.TheVariants as stage
use Rattle.phase_claims.specs.Crews.{HasEnded, IsReady}
use Rattle.phase_claims.specs.Passes.{FloorState, IsOpen, PassState}
use Rattle.phase_claims.specs.declared.view.View.{View}

-- a pass for a crew of n, of a worker for each pass that can be split off, and one more
abbrev pub IsCrewReady : FloorState → ℕ → Option PassState → Type 0
IsCrewReady f n (Some p) = IsReady f n p
IsCrewReady f n None = ⊥

-- the pass of a crew of n, for which no unit is left
abbrev pub HasCrewEnded : FloorState → ℕ → Option PassState → Type 0
HasCrewEnded f n (Some p) = HasEnded f n p
HasCrewEnded f n None = ⊥

-- it has some units open, and is at the first of them
abbrev pub IsAtFirst : View → Type 0
IsAtFirst v = IsOpen v.stage × (v.at ≡ first_in v.stage)

-- it holds numbers of which none is open, or it holds none and may get some
abbrev pub HasNoneOpen : Stage → Type 0
HasNoneOpen stage.Idle = Unit {0}
HasNoneOpen (stage.Held a b) = Unit {0}
HasNoneOpen (stage.Open a m b) = ⊥
HasNoneOpen stage.Ended = ⊥
