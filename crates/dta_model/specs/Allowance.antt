-- How many vehicles rates allow in a step. Rates are in millionths of a vehicle per hour, steps
-- are of delta seconds.
use Rattle.std.specs.Prelude.{ℕ, zero, suc, ◌+◌, ◌*◌, ◌/◌, ◌-◌, ◌%◌, Option, None, Some}
use Rattle.net_core.specs.Rates.{rate_in}
use Rattle.net_core.specs.declared.rates.Rates.{Rates}
use Rattle.dta_model.specs.declared.credit.TheConstants.{PARTS_OF_A_VEHICLE}

-- what is credited at a rate: nothing where there is no limit
abbrev pub credited : Option ℕ → ℕ
credited None = 0
credited (Some rate) = rate

-- what rates give in the first steps, in parts of a vehicle: in each step the rate that it has
unfoldable pub parts : Rates → ℕ → ℕ → ℕ
parts rates delta zero = 0
parts rates delta (suc step) = parts rates delta step + credited (rate_in rates step) * delta

-- the whole vehicles that rates allow in a step: those that are full by its end, without those
-- that were by its start
unfoldable pub allowance : Rates → ℕ → ℕ → ℕ
allowance rates delta step =
    parts rates delta (step + 1) / PARTS_OF_A_VEHICLE
    - parts rates delta step / PARTS_OF_A_VEHICLE

-- the parts of the next vehicle that are carried on after the first steps
abbrev pub carried : Rates → ℕ → ℕ → ℕ
carried rates delta steps = parts rates delta steps % PARTS_OF_A_VEHICLE
