-- Small lists of words, computed by the grammar.
use Rattle.std.specs.Prelude.{◌≡◌, ◌==◌, ◌∷◌, [], ℕ, List, Option, Some, None, false, true, codes}
use Rattle.std.specs.Prelude.{map, refl, replicate}
use Rattle.std.specs.List.{join_with_byte, slice_split}
use Rattle.fixed_units.specs.declared.measure.LengthUnit.TheVariants as length_unit
use Rattle.fixed_units.specs.declared.measure.SpeedUnit.TheVariants as speed_unit
use Rattle.dta_model.specs.declared.queue.Queue.TheVariants as queue
use Rattle.fixed_units.specs.Quantity.{number}
use Rattle.trip_costs.specs.declared.loading_costs.Costs.TheVariants as costs
use Rattle.flat_options.specs.Uses.{Text}
use Rattle.dta_words.specs.Grammar.{costs_given, link_given, settings_of}
use Rattle.dta_words.specs.Numbers.{number_of}
use Rattle.dta_words.specs.Pieces.{pieces_of}
use Rattle.dta_words.specs.Starts.{starts_given, starts_of}
use Rattle.dta_words.specs.Scales.{scale_of, scales_given, scales_in}
use Rattle.dta_words.specs.declared.command.Command.{Command}
use Rattle.dta_words.specs.declared.command.Command.TheVariants as command
use Rattle.dta_words.specs.declared.command.Settings.{Settings}
use Rattle.dta_words.specs.declared.numbers.TheConstants.{MOST_DIGITS}
use Rattle.dta_words.specs.declared.options.Bounds.{Bounds}
use Rattle.dta_words.specs.declared.options.TheConstants.{BUCKET, DEFAULT_PERIOD, HORIZON}
use Rattle.dta_words.specs.declared.options.TheConstants.{GREATEST_SCALE, ITERATIONS, JAM}
use Rattle.dta_words.specs.declared.options.TheConstants.{LEAST_SCALE, LEAST_SIDE, MOST_SCALES}
use Rattle.dta_words.specs.declared.options.TheConstants.{MOST_SIDE, MOST_STARTS, STEP, WATCH, WAVE}
use Rattle.dta_words.specs.declared.options.TheConstants.{WORKERS}

-- ---- the numbers of the options

abbrev bounds : ℕ → ℕ → ℕ → Bounds
bounds least most default = record { least = least; most = most; default = default }

step_is : STEP ≡ bounds 1 60 6
step_is = refl

jam_is : JAM ≡ bounds 1 1000 125
jam_is = refl

horizon_is : HORIZON ≡ bounds 1 86400 1200
horizon_is = refl

default_period_is : DEFAULT_PERIOD ≡ 600
default_period_is = refl

iterations_is : ITERATIONS ≡ bounds 1 1000 1
iterations_is = refl

workers_is : WORKERS ≡ bounds 1 16 4
workers_is = refl

bucket_is : BUCKET ≡ bounds 1 86400 50
bucket_is = refl

wave_is : WAVE ≡ bounds 1 100 20
wave_is = refl

watch_is : WATCH ≡ bounds 0 86400 0
watch_is = refl

least_side_is : LEAST_SIDE ≡ 2
least_side_is = refl

most_side_is : MOST_SIDE ≡ 60
most_side_is = refl

most_digits_is : MOST_DIGITS ≡ 9
most_digits_is = refl

most_starts_is : MOST_STARTS ≡ 64
most_starts_is = refl

most_scales_is : MOST_SCALES ≡ 16
most_scales_is = refl

least_scale_is : LEAST_SCALE ≡ 1
least_scale_is = refl

greatest_scale_is : GREATEST_SCALE ≡ 10000
greatest_scale_is = refl

-- ---- numbers

leading_zeros : number_of (codes "000000012") ≡ Some 12
leading_zeros = refl

ten_digits : number_of (codes "0000000012") ≡ None
ten_digits = refl

no_digits : number_of (codes "") ≡ None
no_digits = refl

a_sign : number_of (codes "+6") ≡ None
a_sign = refl

-- ---- steps between semicolons

pieces : pieces_of (codes "0;;55") ≡ codes "0" ∷ codes "" ∷ codes "55" ∷ []
pieces = refl

two_starts : starts_of 60 (codes "0;55") ≡ Some (0 ∷ 55 ∷ [])
two_starts = refl

-- steps stay in the order given, and may repeat
repeated : starts_of 60 (codes "55;005;5") ≡ Some (55 ∷ 5 ∷ 5 ∷ [])
repeated = refl

last_step : starts_of 60 (codes "59") ≡ Some (59 ∷ [])
last_step = refl

at_the_horizon : starts_of 60 (codes "0;60") ≡ None
at_the_horizon = refl

nothing_at_all : starts_of 60 (codes "") ≡ None
nothing_at_all = refl

nothing_behind : starts_of 60 (codes "0;") ≡ None
nothing_behind = refl

nothing_between : starts_of 60 (codes "0;;55") ≡ None
nothing_between = refl

with_a_blank : starts_of 60 (codes "0; 55") ≡ None
with_a_blank = refl

sixty_four : starts_of 60 (join_with_byte 59 (replicate 64 (codes "5"))) ≡ Some (replicate 64 5)
sixty_four = refl

sixty_five : starts_of 60 (join_with_byte 59 (replicate 65 (codes "5"))) ≡ None
sixty_five = refl

no_starts : starts_given 60 None ≡ Some (0 ∷ [])
no_starts = refl

-- ---- multiples of the demand between semicolons

three_scales : scales_in (codes "0.8;1;1.2") ≡ Some (800 ∷ 1000 ∷ 1200 ∷ [])
unfolding number
three_scales = refl

-- multiples stay in the order given, and may repeat
repeated_scales : scales_in (codes "2;.5;2") ≡ Some (2000 ∷ 500 ∷ 2000 ∷ [])
unfolding number
repeated_scales = refl

-- what is finer than a thousandth is dropped
thousandth : scales_in (codes "0.0019") ≡ Some (1 ∷ [])
unfolding number
thousandth = refl

less_than_a_thousandth : scales_in (codes "0.0009") ≡ None
unfolding number
less_than_a_thousandth = refl

scale_of_zero : scales_in (codes "0") ≡ None
unfolding number
scale_of_zero = refl

tenfold : scales_in (codes "1e1") ≡ Some (10000 ∷ [])
unfolding number
tenfold = refl

more_than_tenfold : scales_in (codes "1;10.001") ≡ None
unfolding number
more_than_tenfold = refl

scale_below_zero : scale_of (codes "-1") ≡ None
unfolding number
scale_below_zero = refl

no_scale_at_all : scales_in (codes "") ≡ None
no_scale_at_all = refl

no_scale_behind : scales_in (codes "1;") ≡ None
unfolding number
no_scale_behind = refl

scale_with_a_blank : scales_in (codes "1; 2") ≡ None
unfolding number
scale_with_a_blank = refl

sixteen_scales : scales_in (join_with_byte 59 (replicate 16 (codes "1"))) ≡ Some (replicate 16 1000)
unfolding number
sixteen_scales = refl

seventeen_scales : scales_in (join_with_byte 59 (replicate 17 (codes "1"))) ≡ None
seventeen_scales = refl

-- a command that takes them has to be given them, and others have none
scales_wanting : scales_given true None ≡ None
scales_wanting = refl

no_scales_taken : scales_given false None ≡ Some []
no_scales_taken = refl

-- ---- a link's identifier

no_link : link_given None ≡ Some None
no_link = refl

point_and_zeros : link_given (Some (codes "020.0")) ≡ Some (Some 20)
unfolding number
point_and_zeros = refl

greatest_link : link_given (Some (codes "9223372036854775807")) ≡ Some (Some 9223372036854775807)
unfolding number
greatest_link = refl

link_out_of_range : link_given (Some (codes "9223372036854775808")) ≡ None
unfolding number
link_out_of_range = refl

link_below_zero : link_given (Some (codes "-20")) ≡ None
link_below_zero = refl

link_with_a_blank : link_given (Some (codes " 20")) ≡ None
link_with_a_blank = refl

-- ---- by what routes are chosen and gaps are told

no_costs : costs_given None ≡ Some costs.Links
no_costs = refl

costs_of_links : costs_given (Some (codes "links")) ≡ Some costs.Links
costs_of_links = refl

costs_of_trips : costs_given (Some (codes "trips")) ≡ Some costs.Trips
costs_of_trips = refl

costs_of_a_trip : costs_given (Some (codes "trip")) ≡ None
costs_of_a_trip = refl

costs_in_capitals : costs_given (Some (codes "Trips")) ≡ None
costs_in_capitals = refl

-- ---- words that have settings

-- the settings of words that stand between blanks (32)
abbrev asked : Text → Option Settings
asked text = settings_of (slice_split (λ byte. byte == 32) text)

-- what a command alone asks for
abbrev pub defaults : Command → Settings
defaults what = record {
  command = what;
  units = record { delta = 6; jam = 125; length = length_unit.Metre; speed = speed_unit.Kmh };
  horizon = 1200;
  period = 600;
  iterations = 1;
  workers = 4;
  bucket = 50;
  queue = queue.Point;
  costs = costs.Links;
  watch = 0;
  plain = false;
  start = false;
  starts = 0 ∷ [];
  link = None;
  scales = [];
}

-- each command is asked for by these words
abbrev Asks : Text → Command → Type 0
Asks text command.Sweep = asked text ≡ Some (record (defaults command.Sweep) { scales = 1 ∷ [] })
Asks text (command.Demo n) = asked text ≡ Some (defaults (command.Demo 12))
Asks text c = asked text ≡ Some (defaults c)

each_asked : (c : Command) → (text : Text) × Asks text c
unfolding number
each_asked command.Freeflow = (codes "freeflow", refl)
each_asked command.Assign = (codes "assign", refl)
each_asked (command.Demo n) = (codes "demo 012", refl)
each_asked command.Skim = (codes "skim", refl)
each_asked command.Counts = (codes "counts", refl)
each_asked command.Sweep = (codes "sweep --scales=0.001", refl)
each_asked command.Audit = (codes "audit", refl)

skim_two_starts : asked (codes "skim --at 0;55 --horizon=60")
    ≡ Some (record (defaults command.Skim) { horizon = 60; period = 60; starts = 0 ∷ 55 ∷ [] })
skim_two_starts = refl

counts_of_a_link : asked (codes "counts --link=20 --plain --period=30")
    ≡ Some (record (defaults command.Counts) { period = 30; plain = true; link = Some 20 })
unfolding number
counts_of_a_link = refl

audit_of_a_period : asked (codes "audit --period=30 --queue=newell")
    ≡ Some (record (defaults command.Audit) { period = 30; queue = queue.Newell 20 })
audit_of_a_period = refl

sweep_of_three : asked (codes "sweep --scales 0.8;1;1.2")
    ≡ Some (record (defaults command.Sweep) { scales = 800 ∷ 1000 ∷ 1200 ∷ [] })
unfolding number
sweep_of_three = refl

sweep_by_workers : asked (codes "sweep --workers=2 --scales=2 --wave=7")
    ≡ Some (record (defaults command.Sweep) { workers = 2; scales = 2000 ∷ [] })
unfolding number
sweep_by_workers = refl

-- a backward wave goes 20 kilometres an hour where no option says it
newell_alone : asked (codes "assign --queue newell")
    ≡ Some (record (defaults command.Assign) { queue = queue.Newell 20 })
newell_alone = refl

newell_of_a_wave : asked (codes "counts --wave=60 --queue=newell")
    ≡ Some (record (defaults command.Counts) { queue = queue.Newell 60 })
newell_of_a_wave = refl

-- with another queue the wave has no effect
wave_of_no_queue : asked (codes "demo 7 --wave 100") ≡ Some (defaults (command.Demo 7))
wave_of_no_queue = refl

assign_by_trips : asked (codes "assign --costs trips")
    ≡ Some (record (defaults command.Assign) { costs = costs.Trips })
assign_by_trips = refl

demo_by_trips : asked (codes "demo --costs=trips 7 --workers 2")
    ≡ Some (record (defaults (command.Demo 7)) { workers = 2; costs = costs.Trips })
demo_by_trips = refl

counts_by_trips : asked (codes "counts --plain --costs trips")
    ≡ Some (record (defaults command.Counts) { plain = true; costs = costs.Trips })
counts_by_trips = refl

sweep_by_trips : asked (codes "sweep --costs=trips --scales=2")
    ≡ Some (record (defaults command.Sweep) { scales = 2000 ∷ []; costs = costs.Trips })
unfolding number
sweep_by_trips = refl

-- link times are the default, and may be said
assign_by_links : asked (codes "assign --costs=links") ≡ Some (defaults command.Assign)
assign_by_links = refl

-- the first routes from an earlier agent table
assign_from_a_start : asked (codes "assign --start --plain")
    ≡ Some (record (defaults command.Assign) { plain = true; start = true })
assign_from_a_start = refl

-- a horizon below 600 steps is the period too
short_horizon : asked (codes "assign --horizon 60")
    ≡ Some (record (defaults command.Assign) { horizon = 60; period = 60 })
short_horizon = refl

in_any_order : asked (codes "assign --period 30 --horizon=60")
    ≡ Some (record (defaults command.Assign) { horizon = 60; period = 30 })
in_any_order = refl

number_between_options : asked (codes "demo --workers 2 7 --plain --queue=spatial")
    ≡ Some (record (defaults (command.Demo 7)) { workers = 2; queue = queue.Spatial; plain = true })
number_between_options = refl

other_units : asked (codes "freeflow --length-unit mi --speed-unit=mph --step=60 --jam=1")
    ≡ Some (record (defaults command.Freeflow) {
      units = record { delta = 60; jam = 1; length = length_unit.Mile; speed = speed_unit.Mph };
    })
other_units = refl

-- ---- words that have none

no_words : settings_of [] ≡ None
no_words = refl

abbrev HaveNone : List Text → Type 0
HaveNone texts = map asked texts ≡ map (λ _. None) texts

-- numbers out of their bounds; a wave has them with any queue
out_of_bounds : HaveNone (codes "assign --step 61" ∷ codes "assign --horizon 60 --period 61"
    ∷ codes "demo 61" ∷ codes "assign --queue=newell --wave=0"
    ∷ codes "assign --queue=point --wave=101" ∷ codes "skim --at=0;1200" ∷ codes "sweep --scales 0"
    ∷ [])
unfolding number
out_of_bounds = refl

-- costs that there are none of
other_costs : HaveNone (codes "assign --costs=walks" ∷ codes "demo 7 --costs=Trips"
    ∷ codes "counts --costs=" ∷ codes "sweep --scales=1 --costs=link" ∷ [])
unfolding number
other_costs = refl

-- a name that is given twice
given_twice : HaveNone (codes "assign --step 6 --step 6" ∷ codes "assign --start --start"
    ∷ codes "demo 7 7" ∷ codes "sweep --scales=1 --scales=1"
    ∷ codes "assign --costs=trips --costs=trips" ∷ [])
given_twice = refl

-- what has to be given, and an option without its value
wanting : HaveNone (codes "demo" ∷ codes "sweep --period 30" ∷ codes "assign --step"
    ∷ codes "assign --step --plain" ∷ codes "assign --costs" ∷ [])
wanting = refl

-- a flag with a text
flags_with_texts : HaveNone (codes "assign --plain=" ∷ codes "assign --plain=x"
    ∷ codes "assign --start=" ∷ codes "assign --start=start.csv" ∷ [])
flags_with_texts = refl

-- a short option, a shortened name, clap's own flag, and two dashes alone
other_forms : HaveNone (codes "assign -s 6" ∷ codes "assign --ste 6" ∷ codes "assign --help"
    ∷ codes "demo -- 7" ∷ [])
other_forms = refl

-- what another command takes
of_another_command : HaveNone (codes "demo 7 --start" ∷ codes "counts --start"
    ∷ codes "skim --wave=20" ∷ codes "freeflow --wave=20" ∷ codes "freeflow --horizon 5"
    ∷ codes "skim --plain" ∷ codes "skim --period 5" ∷ codes "counts --watch 5"
    ∷ codes "counts --at 0" ∷ codes "assign --link 20" ∷ codes "sweep --scales=1 --watch=5"
    ∷ codes "sweep --scales=1 --plain" ∷ codes "sweep --scales=1 --start"
    ∷ codes "assign --scales=1" ∷ codes "audit --workers 2" ∷ codes "audit --iterations 2"
    ∷ codes "audit --plain" ∷ codes "freeflow --costs=links" ∷ codes "skim --costs=trips"
    ∷ codes "audit --costs=trips" ∷ [])
of_another_command = refl
