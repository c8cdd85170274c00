-- The pass of a crew: one pass for each of its workers.
use Rattle.std.specs.Prelude.{◌≡◌, ℕ, ◌+◌}
use Rattle.dta_model.specs.declared.machine.Stage.TheVariants as stage
use Rattle.phase_claims.specs.Passes.{FloorState, IsOf, PassState}
use Rattle.phase_claims.specs.declared.view.View.{View}

-- as many passes are joined in it, and can still be split off
pub record HasSameRights (old new : View) : Type 0 where
  pub weight : new.weight ≡ old.weight
  pub spare : new.spare ≡ old.spare

-- a pass for a crew of n: one for each pass that can be split off, and itself
pub record IsReady (f : FloorState) (n : ℕ) (p : PassState) : Type 0 where
  pub own : IsOf f p
  pub idle : p.view.stage ≡ stage.Idle
  pub weight : p.view.weight ≡ 1
  pub spare : p.view.spare + 1 ≡ n

-- the pass of a crew of n, for which no unit is left
pub record HasEnded (f : FloorState) (n : ℕ) (p : PassState) : Type 0 where
  pub own : IsOf f p
  pub ended : p.view.stage ≡ stage.Ended
  pub weight : p.view.weight ≡ n
  pub spare : p.view.spare ≡ 0
