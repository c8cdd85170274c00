-- How a list of entries grows.
use Rattle.std.specs.Prelude.{◌≡◌, List, ◌++◌}
use Rattle.std.specs.List.{AllZip}

-- a list has grown at its end by an item for each of some others, in their order
pub record Adds {A B : Type 0} (R : A → B → Type 0) (others : List A) (old new : List B)
    : Type 0 where
  pub more : List B
  pub each : AllZip R others more
  pub grown : new ≡ old ++ more
