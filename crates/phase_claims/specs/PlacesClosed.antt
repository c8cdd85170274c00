-- The places of a floor that is closed.
use Rattle.std.specs.Prelude.{◌≡◌, ℕ, ◌<◌, Bool, false, List, slice_set}
use mathlib.Core.Option.{some}
use lib.ListN.{get_elem?}
use Rattle.dta_model.specs.Units.{node_count}
use Rattle.dta_model.specs.declared.plan.Plan.{Plan}
use Rattle.monitors.specs.Posted.{Known}
use Rattle.cell_stages.specs.CellState.{CellState}
use Rattle.cell_stages.specs.Contents.{away, cell_before}
use Rattle.phase_claims.specs.declared.part.Part.{Part}
use Rattle.phase_claims.specs.declared.part.Part.TheVariants.{Cell, Writer}

-- a cell lies in a place, or the writer's pass
abbrev pub HasCell : ℕ → List Part → Type 0
HasCell slot parts = (c : CellState) × (get_elem? parts slot ≡ some (Cell c))

abbrev pub HasWriter : ℕ → List Part → Type 0
HasWriter slot parts = (w : Known) × (get_elem? parts slot ≡ some (Writer w))

-- each cell is that after the last step
abbrev pub AreLast : Plan → List Part → Type 0
AreLast p parts =
    (n : ℕ) → n < node_count p
    → get_elem? parts n ≡ some (Cell (cell_before p n p.horizon away away))

-- the value of one place was taken out: the place is no more filled, and the others stay
pub record IsTaken (old new : List Part) (was is_now : List Bool) (slot : ℕ) : Type 0 where
  pub parts : new ≡ old
  pub filled : is_now ≡ slice_set was slot false
