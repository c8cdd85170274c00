-- What a test says of a pass into which those of several threads were joined.
use Rattle.std.specs.Prelude.{◌≡◌, ℕ}
use Rattle.phase_claims.specs.Passes.{FloorState, HoldsNoUnit, IsOf, PassState}

-- n passes in one that holds no unit
pub record HasWorked (f : FloorState) (n : ℕ) (p : PassState) : Type 0 where
  pub own : IsOf f p
  pub free : HoldsNoUnit p.view.stage
  pub weight : p.view.weight ≡ n
  pub spare : p.view.spare ≡ 0
