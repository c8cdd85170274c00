-- Counts that stay at their last value.
use Rattle.std.proofs.Common.{◌≡◌, ℕ, ◌+◌, arith, min}

-- one more part is counted
pub capped_step : (a b m : ℕ) → min (min a m + b) m ≡ min (a + b) m
capped_step a b m = omega arith
