-- The scenarios of a round.
use Rattle.std.specs.Prelude.{◌≡◌, List, ◌++◌, map, Result, Ok}
use Rattle.std.specs.declared.alloc.AllocError.{AllocError}
use Rattle.sweep.specs.declared.scenario.Scenario.{Scenario}

-- scenarios were kept after others, in their order: all of a round came
pub record AreKept (old : List Scenario) (round : List (Result Scenario AllocError))
    (new : List Scenario) : Type 0 where
  pub more : List Scenario
  pub came : round ≡ map (λ it. Ok it) more
  pub grown : new ≡ old ++ more
