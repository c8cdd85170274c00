-- The greatest of numbers by steps.
use Rattle.std.specs.Prelude.{ℕ, zero, suc, max}

-- the greatest of the numbers of all steps up to a step, that one included
unfoldable pub greatest_to : (ℕ → ℕ) → ℕ → ℕ
greatest_to f zero = f 0
greatest_to f (suc s) = max (greatest_to f s) (f (suc s))
