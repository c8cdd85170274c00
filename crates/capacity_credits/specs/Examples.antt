-- Small worked cases of the definitions.
use Rattle.std.specs.Prelude.{◌≡◌, ◌∷◌, ℕ, [], true, false, map, None, Some, refl}
use Rattle.std.specs.List.{range_with_len}
use Rattle.capacity_credits.specs.Grants.{StandsAfter}
use Rattle.capacity_credits.specs.Meter.{MeterState, closed, granted, passed_one, unopened}
use Rattle.dta_model.specs.Allowance.{allowance, parts}
use Rattle.net_core.specs.Rates.{last_begun, steady}
use Rattle.net_core.specs.declared.rates.Rates.{Rates}

-- 500 vehicles an hour on one lane, in steps of 6 seconds: five in six steps
five_in_six :
    map (allowance (steady (Some 500000000)) 6) (range_with_len 0 8)
    ≡ 0 ∷ 1 ∷ 1 ∷ 1 ∷ 1 ∷ 1 ∷ 0 ∷ 1 ∷ []
unfolding allowance parts last_begun
five_in_six = refl

-- 900 vehicles an hour: three in two steps
three_in_two : map (allowance (steady (Some 900000000)) 6) (range_with_len 0 4) ≡ 1 ∷ 2 ∷ 1 ∷ 2 ∷ []
unfolding allowance parts last_begun
three_in_two = refl

-- 500 vehicles an hour in two steps, and 900 from then on: what is carried stays
faster_later : Rates
faster_later = record {
  usual = Some 500000000;
  windows = record { from = 0; rate = Some 500000000 } ∷ record { from = 2; rate = Some 900000000 }
      ∷ [];
}

two_of_each : map (allowance faster_later 6) (range_with_len 0 4) ≡ 0 ∷ 1 ∷ 2 ∷ 1 ∷ []
unfolding allowance parts last_begun faster_later
two_of_each = refl

-- after two steps of five sixths, four sixths of a vehicle are carried
after_two : StandsAfter 2 (steady (Some 500000000)) 6 2400000000
unfolding parts last_begun
after_two = refl

-- a meter of these rates, step by step
abbrev opened : ℕ → MeterState
opened step = granted step (unopened 6 faster_later)

allowances_of_a_meter :
    (map (λ step. (opened step).left) (range_with_len 0 4) ≡ 0 ∷ 1 ∷ 2 ∷ 1 ∷ [])
    × ((passed_one (opened 2)).left ≡ 1)
    × (granted 3 (closed (opened 2)) ≡ opened 3)
unfolding allowance parts last_begun faster_later
allowances_of_a_meter = (refl, refl, refl)

-- a limit that ends: nothing is credited in a step without one
unlimited_later : Rates
unlimited_later = record {
  usual = Some 500000000;
  windows = record { from = 0; rate = Some 500000000 } ∷ record { from = 1; rate = None } ∷ [];
}

abbrev opened_at : ℕ → MeterState
opened_at step = granted step (unopened 6 unlimited_later)

no_limit :
    ((opened_at 0).unlimited ≡ false)
    × ((opened_at 1).unlimited ≡ true)
    × ((opened_at 1).left ≡ 0)
unfolding allowance parts last_begun unlimited_later
no_limit = (refl, refl, refl)
