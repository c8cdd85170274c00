-- Small worked cases of the definitions.
use Rattle.std.specs.Prelude.{◌≡◌, ◌-◌, ◌^◌, true, [], Ok, Err, codes, refl}
use Rattle.fixed_units.specs.declared.fault.NumberFault.TheVariants.{NotNumber, OutOfRange}
use Rattle.fixed_units.specs.declared.measure.LengthUnit.TheVariants.{Metre, Mile}
use Rattle.fixed_units.specs.declared.measure.SpeedUnit.TheVariants.{Kmh}
use Rattle.fixed_units.specs.declared.identifier.TheConstants.{GREATEST_IDENTIFIER}
use Rattle.fixed_units.specs.declared.quantity.TheConstants.{MOST_BYTES, MOST_THOUSANDTHS}
use Rattle.fixed_units.specs.declared.link.TheConstants.{MOST_STEP, MOST_FREE_STEPS, MOST_STORAGE}
use Rattle.fixed_units.specs.declared.link.TheConstants.{MOST_LANES, MOST_JAM, MOST_RATE}
use Rattle.fixed_units.specs.declared.turn.TheConstants.{MOST_PENALTY, MOST_PENALTY_STEPS}
use Rattle.fixed_units.specs.Quantity.{number, whole_of, milli_of}
use Rattle.fixed_units.specs.Spelling.{text_of, plus, minus, power}
use Rattle.fixed_units.specs.Units.{length_of, speed_of, free_steps_of, storage_of, wave_steps_of}
use Rattle.fixed_units.specs.Units.{penalty_steps_of, link_rate_of, turn_rate_of}

-- ---- quantities
-- 1.0 times 1000
thousand : milli_of (codes "1.0e3") ≡ Ok 1000000
unfolding number
thousand = refl

two_decimals : milli_of (codes "1000.49") ≡ Ok 1000490
unfolding number
two_decimals = refl

-- what is finer than a thousandth is dropped
finer : milli_of (codes "1000.4909") ≡ Ok 1000490
unfolding number
finer = refl

-- digits on one side of the point are enough
half : milli_of (codes ".5") ≡ Ok 500
unfolding number
half = refl

five : milli_of (codes "5.") ≡ Ok 5000
unfolding number
five = refl

seven : milli_of (codes "+007") ≡ Ok 7000
unfolding number
seven = refl

-- an exponent may have a sign, and zeros in front
hundredth : milli_of (codes "25E-02") ≡ Ok 250
unfolding number
hundredth = refl

-- no value below 0
minus_zero : milli_of (codes "-0.0e9") ≡ Ok 0
unfolding number
minus_zero = refl

-- below 0 by the exact value, though its floor may be 0 in thousandths
just_below_zero : milli_of (codes "-0.0001") ≡ Err OutOfRange
unfolding number
just_below_zero = refl

far_below_zero : milli_of (codes "-1e-999") ≡ Err OutOfRange
unfolding number
far_below_zero = refl

nearly_nothing : milli_of (codes "1e-999") ≡ Ok 0
unfolding number
nearly_nothing = refl

nothing_at_all : milli_of (codes "0e999") ≡ Ok 0
unfolding number
nothing_at_all = refl

-- the greatest quantity, and the least one above it
greatest : milli_of (codes "1000000000.0009") ≡ Ok 1000000000000
unfolding number
greatest = refl

above_the_greatest : milli_of (codes "1000000000.001") ≡ Err OutOfRange
unfolding number
above_the_greatest = refl

far_above : milli_of (codes "1e999") ≡ Err OutOfRange
unfolding number
far_above = refl

-- texts that are no quantity
no_text : milli_of [] ≡ Err NotNumber
no_text = refl

no_digits : milli_of (codes ".") ≡ Err NotNumber
no_digits = refl

no_mantissa : milli_of (codes "e5") ≡ Err NotNumber
no_mantissa = refl

no_exponent : milli_of (codes "1e") ≡ Err NotNumber
no_exponent = refl

long_exponent : milli_of (codes "1e1234") ≡ Err NotNumber
long_exponent = refl

broken_exponent : milli_of (codes "1e5.0") ≡ Err NotNumber
broken_exponent = refl

two_points : milli_of (codes "1.2.3") ≡ Err NotNumber
two_points = refl

two_signs : milli_of (codes "+-1") ≡ Err NotNumber
two_signs = refl

inner_blank : milli_of (codes "1 000") ≡ Err NotNumber
inner_blank = refl

-- the pieces of a quantity's text
pieces : text_of (record {
  sign = minus;
  whole = codes "1";
  point = true;
  fraction = codes "50";
  last = power 69 plus (codes "02");
}) ≡ codes "-1.50E+02"
pieces = refl

-- ---- identifiers

identifier : whole_of (codes "007") ≡ Ok 7
unfolding number
identifier = refl

-- zeros may stand after a point
with_zeros : whole_of (codes "2.000") ≡ Ok 2
unfolding number
with_zeros = refl

greatest_identifier : whole_of (codes "9223372036854775807") ≡ Ok 9223372036854775807
unfolding number
greatest_identifier = refl

above_the_greatest_identifier : whole_of (codes "9223372036854775808") ≡ Err OutOfRange
unfolding number
above_the_greatest_identifier = refl

-- a minus before an identifier
minus_one : whole_of (codes "-1") ≡ Err OutOfRange
minus_one = refl

minus_nought : whole_of (codes "-0.0") ≡ Err OutOfRange
minus_nought = refl

fraction : whole_of (codes "2.5") ≡ Err NotNumber
fraction = refl

open_point : whole_of (codes "2.") ≡ Err NotNumber
open_point = refl

with_power : whole_of (codes "2e0") ≡ Err NotNumber
with_power = refl

with_plus : whole_of (codes "+2") ≡ Err NotNumber
with_plus = refl

minus_fraction : whole_of (codes "-2.5") ≡ Err NotNumber
minus_fraction = refl

no_identifier : whole_of [] ≡ Err NotNumber
no_identifier = refl

-- ---- units

-- 1000 m at 60 km/h take exactly 60 s, which are ten steps of 6 s
ten_steps : free_steps_of (length_of 1000000 Metre) (speed_of 60000 Kmh) 6 ≡ Ok 10
ten_steps = refl

-- 1000.49 m take a little more, which is rounded up
eleven_steps : free_steps_of (length_of 1000490 Metre) (speed_of 60000 Kmh) 6 ≡ Ok 11
eleven_steps = refl

-- 5 m take a third of a second, and still one step
one_step : free_steps_of (length_of 5000 Metre) (speed_of 60000 Kmh) 6 ≡ Ok 1
one_step = refl

-- a length of 0 takes one step too
no_length : free_steps_of (length_of 0 Metre) (speed_of 60000 Kmh) 6 ≡ Ok 1
no_length = refl

-- 1000 miles at 1 km/h take 5,793,638.4 s
too_slow : free_steps_of (length_of 1000000 Mile) (speed_of 1000 Kmh) 6
    ≡ Err (record { steps = 965607 })
too_slow = refl

-- 1000 m of one lane at 125 vehicles per kilometre
full_kilometre : storage_of (length_of 1000000 Metre) 1000 125 ≡ 125
full_kilometre = refl

eighty_metres : storage_of (length_of 80000 Metre) 1000 125 ≡ 10
eighty_metres = refl

-- 5 m hold 0.625 vehicles, and still one
at_least_one : storage_of (length_of 5000 Metre) 1000 125 ≡ 1
at_least_one = refl

-- a wave of 20 km/h takes 14.4 seconds over 80 metres, and three minutes over a kilometre
waves_of_twenty :
    (wave_steps_of (length_of 80000 Metre) 20 6 60 ≡ 3)
    × (wave_steps_of (length_of 1000000 Metre) 20 6 60 ≡ 30)
    × (wave_steps_of (length_of 1000000 Metre) 20 6 29 ≡ 29)
waves_of_twenty = (refl, refl, refl)

-- a fast wave, and one over nothing, take a step
one_step_at_least :
    (wave_steps_of (length_of 80000 Metre) 60 6 60 ≡ 1)
    × (wave_steps_of (length_of 0 Metre) 20 6 60 ≡ 1)
one_step_at_least = (refl, refl)

-- 7 s are two steps of 6 s, rounded up
two_steps : penalty_steps_of 7000 6 ≡ 2
two_steps = refl

-- 600 vehicles per hour and lane, on one lane
one_lane : link_rate_of 600000 1000 ≡ 600000000
one_lane = refl

turn_of_600 : turn_rate_of 600000 ≡ 600000000
turn_of_600 = refl

-- ---- the limits of the formats

longest_quantity : MOST_BYTES ≡ 64
longest_quantity = refl

greatest_quantity : MOST_THOUSANDTHS ≡ 10 ^ 12
greatest_quantity = refl

greatest_identifier_number : GREATEST_IDENTIFIER ≡ 2 ^ 63 - 1
greatest_identifier_number = refl

longest_step : MOST_STEP ≡ 60
longest_step = refl

most_free_steps : MOST_FREE_STEPS ≡ 10000
most_free_steps = refl

most_storage : MOST_STORAGE ≡ 4000000
most_storage = refl

most_lanes : MOST_LANES ≡ 100000
most_lanes = refl

densest_jam : MOST_JAM ≡ 1000
densest_jam = refl

highest_rate : MOST_RATE ≡ 10 ^ 17
highest_rate = refl

-- ten hours
longest_penalty : (MOST_PENALTY ≡ 36000000) × (MOST_PENALTY_STEPS ≡ 36000)
longest_penalty = (refl, refl)
