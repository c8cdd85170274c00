-- What is true of the times of every table.
use Rattle.std.specs.Prelude.{ℕ, ◌<◌, ◌≤◌, ◌^◌, All, length}
use Rattle.dta_model.specs.LinkTimes.{TimeTable, time_at}
use Rattle.dta_model.specs.declared.loading.TheConstants.{MOST_HORIZON}

-- each link takes time, in every step, and no number is wider than 32 bits
pub record IsTimeTable (t : TimeTable) : Type 0 where
  pub least : (l step : ℕ) → l < length t.free → 1 ≤ time_at t l step
  pub most : (l step : ℕ) → l < length t.free → time_at t l step < 2 ^ 32
  pub horizon : t.horizon < 2 ^ 32

-- a table in which no link takes more steps than the longest horizon has
pub record IsShort (t : TimeTable) : Type 0 where
  pub times : All (λ x. x ≤ MOST_HORIZON) t.times
  pub free : All (λ x. x ≤ MOST_HORIZON) t.free
