-- The claims of a loading's units as numbers: how often each unit is done and how often held.
use Rattle.std.specs.Prelude.{◌≡◌, ℕ, ◌+◌, ◌<◌, ◌≤◌}
use Rattle.dta_model.specs.Units.{phase_end, phase_start}
use Rattle.claim_core.specs.Sums.{below, once_below}

-- with n nodes, where units below a bound are drawn and so many are finished: each unit below the
-- bound is done or held, once; the finished ones are those that are done; the units before the
-- phase in which their number stands are done, and none after it is
pub record Claimed (n bound finished : ℕ) (done held : ℕ → ℕ) : Type 0 where
  pub once : (x : ℕ) → done x + held x ≡ once_below x bound
  pub sum : finished ≡ below bound done
  pub before : (x : ℕ) → x < phase_start n finished → 1 ≤ done x
  pub after : (x : ℕ) → phase_end n finished ≤ x → done x ≡ 0
