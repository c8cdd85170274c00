-- The units of a run, and the numbers of a network, each by its formula over exact whole numbers.
use Rattle.std.specs.Prelude.{ℕ, ◌≤◌, ◌*◌, ◌/◌, ◌^◌, min, max, nat_le, if◌then◌else◌, Result}
use Rattle.std.specs.Prelude.{Ok, Err}
use Rattle.std.specs.Int.{div_ceil}
use Rattle.fixed_units.specs.declared.measure.LengthUnit.{LengthUnit}
use Rattle.fixed_units.specs.declared.measure.LengthUnit.TheVariants.{Metre, Kilometre, Mile}
use Rattle.fixed_units.specs.declared.measure.SpeedUnit.{SpeedUnit}
use Rattle.fixed_units.specs.declared.measure.SpeedUnit.TheVariants.{Kmh, Mph}
use Rattle.fixed_units.specs.declared.measure.Length.{Length}
use Rattle.fixed_units.specs.declared.measure.Speed.{Speed}
use Rattle.fixed_units.specs.declared.link.TooSlow.{TooSlow}
use Rattle.fixed_units.specs.declared.link.TheConstants.{MOST_FREE_STEPS, MOST_JAM, MOST_STEP}
use Rattle.fixed_units.specs.declared.link.TheConstants.{MOST_STORAGE}
use Rattle.fixed_units.specs.declared.units.Units.{Units}

-- units that a run may have: steps of 1 to 60 seconds, and 1 to 1000 vehicles on a kilometre of a
-- lane in a jam
pub record IsUnits (units : Units) : Type 0 where
  pub step : 1 ≤ units.delta
  pub short : units.delta ≤ MOST_STEP
  pub sparse : 1 ≤ units.jam
  pub dense : units.jam ≤ MOST_JAM

-- the micrometres in a thousandth of a unit
abbrev pub length_factor : LengthUnit → ℕ
length_factor Metre = 1000
length_factor Kilometre = 1000000
length_factor Mile = 1609344

-- the micrometres per hour in a thousandth of a unit
abbrev pub speed_factor : SpeedUnit → ℕ
speed_factor Kmh = 1000000
speed_factor Mph = 1609344

-- so many thousandths of a unit, as a length
abbrev pub length_of : ℕ → LengthUnit → Length
length_of thousandths unit = record { micrometres = thousandths * length_factor unit }

-- so many thousandths of a unit, as a speed
abbrev pub speed_of : ℕ → SpeedUnit → Speed
speed_of thousandths unit = record { micrometres_per_hour = thousandths * speed_factor unit }

-- the steps of so many seconds that a length takes at a speed, rounded up, and at least one
abbrev pub steps_at_free_speed : Length → Speed → ℕ → ℕ
steps_at_free_speed length speed delta =
    max 1 (div_ceil (3600 * length.micrometres) (speed.micrometres_per_hour * delta))

-- the free-flow steps of a link, or that it is too slow
abbrev pub free_steps_of : Length → Speed → ℕ → Result ℕ TooSlow
free_steps_of length speed delta =
    if nat_le (steps_at_free_speed length speed delta) MOST_FREE_STEPS
    then Ok (steps_at_free_speed length speed delta)
    else Err (record { steps = steps_at_free_speed length speed delta })

-- the vehicles that a length stores, from one to MOST_STORAGE: lanes are in thousandths,
-- and the jam density in vehicles per kilometre and lane
abbrev pub storage_of : Length → ℕ → ℕ → ℕ
storage_of length lanes jam = min MOST_STORAGE (max 1 (length.micrometres * lanes * jam / 10 ^ 12))

-- the steps of so many seconds that a penalty in thousandths of a second takes, rounded up
abbrev pub penalty_steps_of : ℕ → ℕ → ℕ
penalty_steps_of thousandths delta = div_ceil thousandths (1000 * delta)

-- a link's rate in millionths of a vehicle per hour: the capacity of a lane by the lanes,
-- both in thousandths
abbrev pub link_rate_of : ℕ → ℕ → ℕ
link_rate_of capacity lanes = capacity * lanes

-- a turn's rate in millionths of a vehicle per hour, from its capacity in thousandths
abbrev pub turn_rate_of : ℕ → ℕ
turn_rate_of capacity = capacity * 1000

-- the steps of so many seconds that a backward wave of so many kilometres per hour takes over a
-- length, rounded up: at least one, and not more than the horizon has
abbrev pub wave_steps_of : Length → ℕ → ℕ → ℕ → ℕ
wave_steps_of length wave delta horizon =
    max 1 (min horizon (div_ceil (3600 * length.micrometres) (wave * 10 ^ 9 * delta)))
