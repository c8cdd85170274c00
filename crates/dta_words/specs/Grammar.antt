-- The grammar of the words: the settings of a list of words, if it has any.
use Rattle.std.specs.Prelude.{ℕ, List, [], ◌∷◌, min, codes, Option, Some, None}
use Rattle.std.specs.Prelude.{if◌then◌else◌, option_and_then, option_map}
use Rattle.std.specs.Result.{result_ok}
use Rattle.std.specs.Str.{bytes_eq}
use Rattle.fixed_units.specs.declared.measure.LengthUnit.{LengthUnit}
use Rattle.fixed_units.specs.declared.measure.LengthUnit.TheVariants as length_unit
use Rattle.fixed_units.specs.declared.measure.SpeedUnit.{SpeedUnit}
use Rattle.fixed_units.specs.declared.measure.SpeedUnit.TheVariants as speed_unit
use Rattle.fixed_units.specs.declared.units.Units.{Units}
use Rattle.fixed_units.specs.Quantity.{whole_of}
use Rattle.dta_model.specs.declared.queue.Queue.{Queue}
use Rattle.dta_model.specs.declared.queue.Queue.TheVariants as queue
use Rattle.trip_costs.specs.declared.loading_costs.Costs.{Costs}
use Rattle.trip_costs.specs.declared.loading_costs.Costs.TheVariants as costs
use Rattle.flat_options.specs.Uses.{Text, Use, is_given, number_name, uses_of, value_in}
use Rattle.dta_words.specs.Options.{command_of, takes_of, takes_scales, word_of}
use Rattle.dta_words.specs.Numbers.{number_given}
use Rattle.dta_words.specs.Starts.{starts_given}
use Rattle.dta_words.specs.Scales.{scales_given}
use Rattle.dta_words.specs.declared.options.Bounds.{Bounds}
use Rattle.dta_words.specs.declared.options.Flags.{Flags}
use Rattle.dta_words.specs.declared.options.TheConstants.{BUCKET, DEFAULT_PERIOD, HORIZON}
use Rattle.dta_words.specs.declared.options.TheConstants.{ITERATIONS, JAM, STEP, WATCH, WAVE}
use Rattle.dta_words.specs.declared.options.TheConstants.{WORKERS}
use Rattle.dta_words.specs.declared.command.Command.{Command}
use Rattle.dta_words.specs.declared.command.Settings.{Settings}

infixl 10 ◌>>=◌
abbrev pub ◌>>=◌ : {A B : Type 0} → Option A → (A → Option B) → Option B
o >>= f = option_and_then f o

-- ---- values that aren't numbers

abbrev pub length_unit_of : Option Text → Option LengthUnit
length_unit_of None = Some length_unit.Metre
length_unit_of (Some text) = if bytes_eq text (codes "m") then Some length_unit.Metre
    else (if bytes_eq text (codes "km") then Some length_unit.Kilometre
    else (if bytes_eq text (codes "mi") then Some length_unit.Mile else None))

abbrev pub speed_unit_of : Option Text → Option SpeedUnit
speed_unit_of None = Some speed_unit.Kmh
speed_unit_of (Some text) = if bytes_eq text (codes "kmh") then Some speed_unit.Kmh
    else (if bytes_eq text (codes "mph") then Some speed_unit.Mph else None)

-- the speed of a backward wave belongs to Newell's queue alone
abbrev pub queue_of : ℕ → Option Text → Option Queue
queue_of wave None = Some queue.Point
queue_of wave (Some text) = if bytes_eq text (codes "point") then Some queue.Point
    else (if bytes_eq text (codes "spatial") then Some queue.Spatial
    else (if bytes_eq text (codes "newell") then Some (queue.Newell wave) else None))

-- by what routes are chosen and gaps are told: link times where the option isn't given
abbrev pub costs_given : Option Text → Option Costs
costs_given None = Some costs.Links
costs_given (Some text) = if bytes_eq text (codes "links") then Some costs.Links
    else (if bytes_eq text (codes "trips") then Some costs.Trips else None)

-- the link that the option gives by its identifier, if it is given
abbrev pub link_given : Option Text → Option (Option ℕ)
link_given None = Some None
link_given (Some text) = option_map (λ link. Some link) (result_ok (whole_of text))

-- ---- what the values come to

-- the period ends with the horizon at the latest, also where no option says it
abbrev pub period_within : ℕ → Bounds
period_within horizon =
    record { least = 1; most = horizon; default = min DEFAULT_PERIOD horizon }

abbrev pub units_by : (Text → Option Text) → Option Units
units_by value = do
  step ← number_given STEP (value (codes "step"))
  jam ← number_given JAM (value (codes "jam"))
  length_unit ← length_unit_of (value (codes "length-unit"))
  speed_unit ← speed_unit_of (value (codes "speed-unit"))
  Some (record { delta = step; jam = jam; length = length_unit; speed = speed_unit })

-- the settings over a horizon with these starts and multiples of the demand, where `value` has the
-- text of each option, and `flags` says which flags are given
abbrev pub settings_over :
    ℕ → List ℕ → List ℕ → Command → (Text → Option Text) → Flags → Option Settings
settings_over horizon starts scales first value flags = do
  what ← command_of first (value number_name)
  units ← units_by value
  period ← number_given (period_within horizon) (value (codes "period"))
  iterations ← number_given ITERATIONS (value (codes "iterations"))
  workers ← number_given WORKERS (value (codes "workers"))
  bucket ← number_given BUCKET (value (codes "bucket"))
  wave ← number_given WAVE (value (codes "wave"))
  line ← queue_of wave (value (codes "queue"))
  by ← costs_given (value (codes "costs"))
  watch ← number_given WATCH (value (codes "watch"))
  link ← link_given (value (codes "link"))
  Some (record {
    command = what;
    units = units;
    horizon = horizon;
    period = period;
    iterations = iterations;
    workers = workers;
    bucket = bucket;
    queue = line;
    costs = by;
    watch = watch;
    plain = flags.plain;
    start = flags.start;
    starts = starts;
    link = link;
    scales = scales;
  })

-- the settings; the starts are below the horizon
abbrev pub settings_by : Command → (Text → Option Text) → Flags → Option Settings
settings_by first value flags = do
  horizon ← number_given HORIZON (value (codes "horizon"))
  starts ← starts_given horizon (value (codes "at"))
  scales ← scales_given (takes_scales first) (value (codes "scales"))
  settings_over horizon starts scales first value flags

-- the flags that the uses have
abbrev pub flags_in : List Use → Flags
flags_in uses =
    record { plain = is_given uses (codes "plain"); start = is_given uses (codes "start") }

abbrev pub settings_from : Command → List Use → Option Settings
settings_from first uses = settings_by first (value_in uses) (flags_in uses)

-- the settings that a list of words asks for
abbrev pub settings_of : List Text → Option Settings
settings_of [] = None
settings_of (first ∷ rest) = do
  named ← word_of first
  uses ← uses_of (takes_of named) rest
  settings_from named uses
