-- What a credit carries after so many grants.
use Rattle.net_core.specs.Rates.{rate_in}
use Rattle.net_core.specs.declared.rates.Rates.{Rates}
use Rattle.std.specs.Prelude.{◌≡◌, ◌<◌, ◌+◌, ℕ}
use Rattle.dta_model.specs.Allowance.{credited}
use Rattle.dta_model.specs.Allowance as allowances

-- a credit carries what it does after one grant for each of the first steps, in turn and each with
-- that step's rate, in steps of delta seconds
abbrev pub StandsAfter : ℕ → Rates → ℕ → ℕ → Type 0
StandsAfter grants rates delta carried = carried ≡ allowances.carried rates delta grants

-- from a step on, a rate is credited in so many steps
abbrev pub IsRateFor : Rates → ℕ → ℕ → ℕ → Type 0
IsRateFor rates first steps rate =
    (k : ℕ) → k < steps → credited (rate_in rates (first + k)) ≡ rate
