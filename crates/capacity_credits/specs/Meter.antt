-- What rates allow in a step.
use Rattle.dta_model.specs.Allowance.{allowance}
use Rattle.net_core.specs.Rates.{rate_in}
use Rattle.net_core.specs.declared.rates.Rates.{Rates}
use Rattle.std.specs.Option.{is_none}
use Rattle.std.specs.Prelude.{ℕ, ◌-◌, Bool, false, min}

-- rates in steps of delta seconds, the whole vehicles that are left of the allowance of the step
-- that is open, and whether that step has no limit
pub record MeterState : Type 0 where
  pub rates : Rates
  pub delta : ℕ
  pub left : ℕ
  pub unlimited : Bool

-- rates of which no step is open
abbrev pub unopened : ℕ → Rates → MeterState
unopened delta rates = record { rates = rates; delta = delta; left = 0; unlimited = false }

-- a step is open, and its allowance is granted
abbrev pub granted : ℕ → MeterState → MeterState
granted step m =
    record m {
      left = allowance m.rates m.delta step;
      unlimited = is_none (rate_in m.rates step);
    }

-- one vehicle passed
abbrev pub passed_one : MeterState → MeterState
passed_one m = record m { left = m.left - 1 }

-- the step is over
abbrev pub closed : MeterState → MeterState
closed m = record m { left = 0; unlimited = false }

-- not more than a room
abbrev pub capped : ℕ → MeterState → MeterState
capped room m = record m { left = min m.left room }
