-- Windows, and the credit with which each begins.
use Rattle.dta_model.specs.Allowance.{carried}
use Rattle.net_core.specs.Rates.{AreRates}
use Rattle.net_core.specs.declared.rates.Rates.{Rates}
use Rattle.net_core.specs.declared.rates.Window.{Window}
use Rattle.std.specs.Prelude.{◌≡◌, ℕ, ◌+◌, ◌<◌, ◌≤◌, IfSome, List, length, map, slice_get}

-- the last window that has begun by a step: the one that follows hasn't
pub record IsLatest (ws : List Window) (step place : ℕ) : Type 0 where
  pub within : place < length ws
  pub begun : IfSome (slice_get ws place) (λ w. w.from ≤ step)
  pub next : IfSome (slice_get ws (place + 1)) (λ w. step < w.from)

-- rates with windows, and for each window what is carried at its start, in steps of delta seconds
pub record IsCourse (rates : Rates) (delta : ℕ) (credits : List ℕ) : Type 0 where
  pub given : AreRates rates
  pub some : 0 < length rates.windows
  pub carries : credits ≡ map (λ w. carried rates delta w.from) rates.windows
