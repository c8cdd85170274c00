-- Small worked cases of the definitions. Steps are of six seconds; a rate of 600,000,000 is one
-- vehicle in such a step.
use Rattle.std.specs.Prelude.{◌≡◌, ℕ, true, false, List, [], ◌∷◌, ◌++◌, Option, Some, None, map}
use Rattle.std.specs.Prelude.{refl}
use Rattle.std.specs.List.{flat_map, repeat}
use Rattle.net_core.specs.Network.{numbers_below}
use Rattle.net_core.specs.declared.rates.Rates.{Rates}
use Rattle.net_core.specs.declared.rates.Window.{Window}
use Rattle.net_core.specs.declared.rows.LinkNo.{LinkNo}
use Rattle.net_core.specs.declared.rows.LinkRow.{LinkRow}
use Rattle.net_core.specs.declared.rows.NetRows.{NetRows}
use Rattle.net_core.specs.declared.rows.NodeRow.{NodeRow}
use Rattle.net_core.specs.declared.rows.TurnRow.{TurnRow}
use Rattle.dta_model.specs.Allowance.{allowance}
use Rattle.dta_model.specs.Loading.{trace_after, entries_of, arrival_of}
use Rattle.dta_model.specs.Machine.{all_idle, finished, outcomes_of, run_machine}
use Rattle.dta_model.specs.OnLiterals.{claims_on_literals, loadings_on_literals}
use Rattle.dta_model.specs.OnLiterals.{releases_on_literals, traces_on_literals}
use Rattle.dta_model.specs.Plans.{has_pass}
use Rattle.dta_model.specs.Release.{trips_of}
use Rattle.dta_model.specs.Room.{room, wave_of}
use Rattle.dta_model.specs.State.{eight_after}
use Rattle.dta_model.specs.Trace.{Move}
use Rattle.dta_model.specs.Units.{phase_end, phase_start, places}
use Rattle.dta_model.specs.declared.credit.TheConstants.{PARTS_OF_A_VEHICLE}
use Rattle.dta_model.specs.declared.loading.TheConstants.{MOST_HORIZON}
use Rattle.dta_model.specs.declared.machine.Event.{Event}
use Rattle.dta_model.specs.declared.machine.Event.TheVariants as event
use Rattle.dta_model.specs.declared.machine.Outcome.{Outcome}
use Rattle.dta_model.specs.declared.machine.Outcome.TheVariants as outcomes
use Rattle.dta_model.specs.declared.plan.Plan.{Plan}
use Rattle.dta_model.specs.declared.queue.Queue.TheVariants as queue
use Rattle.dta_model.specs.declared.trip.DemandCell.{DemandCell}
use Rattle.dta_model.specs.declared.trip.TheConstants.{MOST_TRIPS, VOLUME_OF_A_VEHICLE}
use Rattle.dta_model.specs.declared.trip.Trip.{Trip}

-- ---- limits and units
most_trips : MOST_TRIPS ≡ 2000000
most_trips = refl

most_horizon : MOST_HORIZON ≡ 86400
most_horizon = refl

volume_of_a_vehicle : VOLUME_OF_A_VEHICLE ≡ 1000
volume_of_a_vehicle = refl

-- a million millionths of a vehicle, times the seconds of an hour
parts_of_a_vehicle : PARTS_OF_A_VEHICLE ≡ 3600000000
parts_of_a_vehicle = refl

-- ---- words for the tables of a case
unfoldable pub trip : ℕ → ℕ → Trip
trip number departs = record { number = number; origin = 1; destination = 3; departure = departs }

-- a row whose vehicles depart in these steps
abbrev row_within : ℕ → ℕ → ℕ → ℕ → DemandCell
row_within line volume from to = record {
  line = line;
  origin = 1;
  destination = 3;
  volume = volume;
  from = from;
  to = to;
}

-- a row over thirty steps
abbrev row : ℕ → ℕ → DemandCell
row line volume = row_within line volume 0 30

abbrev pub node : ℕ → NodeRow
node zone = record { id = zone; zone = Some zone }

abbrev pub number : ℕ → LinkNo
number l = record { 0 = l }

abbrev pub link : ℕ → ℕ → ℕ → ℕ → ℕ → ℕ → LinkRow
link id from to free storage rate =
    record {
      id = id;
      from = record { 0 = from };
      to = record { 0 = to };
      micrometres = 1000000000;
      free = free;
      storage = storage;
      rate = rate;
    }

-- a link after another, from zone 1 to zone 3
abbrev pub in_a_line : LinkRow → LinkRow → List TurnRow → NetRows
in_a_line a b turns = record {
  nodes = node 1 ∷ node 2 ∷ node 3 ∷ [];
  links = a ∷ b ∷ [];
  turns = turns;
  link_windows = [];
  turn_windows = [];
}

abbrev pub both : List (Option (List LinkNo))
both = Some (number 0 ∷ number 1 ∷ []) ∷ []

-- the entries and arrivals of the first vehicles by a trace
abbrev journeys : ℕ → List Move → List (List ℕ)
journeys count T = map (entries_of T) (numbers_below count)

abbrev arrivals : ℕ → List Move → List (Option ℕ)
arrivals count T = map (arrival_of T) (numbers_below count)

-- ---- release
-- three vehicles in thirty steps
three_in_thirty_steps : trips_of (row 2 3000 ∷ []) ≡ trip 0 5 ∷ trip 1 15 ∷ trip 2 25 ∷ []
unfolding releases_on_literals trip
three_in_thirty_steps = refl

-- three rows of 0.4 vehicles make one, of the third row
three_small_volumes : trips_of (row 2 400 ∷ row 3 400 ∷ row 4 400 ∷ []) ≡ trip 0 15 ∷ []
unfolding releases_on_literals trip
three_small_volumes = refl

-- a row from a zone to itself makes none
a_row_within_a_zone :
    trips_of (record (row 2 3000) { destination = 1 } ∷ row 3 1000 ∷ []) ≡ trip 0 15 ∷ []
unfolding releases_on_literals trip
a_row_within_a_zone = refl

-- two vehicles from step 5 to before 9, one before step 4, and one from step 12 to the end
windows_of_their_own :
    trips_of (row_within 2 2000 5 9 ∷ row_within 3 1000 0 4 ∷ row_within 4 1000 12 16 ∷ [])
    ≡ trip 0 2 ∷ trip 1 6 ∷ trip 2 8 ∷ trip 3 14 ∷ []
unfolding releases_on_literals trip
windows_of_their_own = refl

-- a window of one step is a given departure; several vehicles may leave in it. Vehicles of one
-- step stand by row
windows_of_one_step :
    trips_of (row_within 2 2000 7 8 ∷ row_within 3 3000 0 2 ∷ row_within 4 1000 15 16 ∷ [])
    ≡ trip 0 0 ∷ trip 1 1 ∷ trip 2 1 ∷ trip 3 7 ∷ trip 4 7 ∷ trip 5 15 ∷ []
unfolding releases_on_literals trip
windows_of_one_step = refl

-- ---- allowances
-- a window from a step on
abbrev pub window : ℕ → Option ℕ → Window
window from rate = record { from = from; rate = rate }

-- half a vehicle and a third in each of two steps, then a vehicle and a half in each: parts that
-- aren't full when the rate changes stay
abbrev rising : Rates
rising = record {
  usual = Some 0;
  windows = window 0 (Some 500000000) ∷ window 2 (Some 900000000) ∷ [];
}

rates_that_change : map (allowance rising 6) (numbers_below 4) ≡ 0 ∷ 1 ∷ 2 ∷ 1 ∷ []
unfolding traces_on_literals
rates_that_change = refl

-- one vehicle in a step, and no limit from step 2 on
abbrev opened : Rates
opened = record { usual = Some 600000000; windows = window 2 None ∷ [] }

-- ---- two links of ten steps, and one vehicle in a step
unfoldable pub two_links_in_a_line : Plan
two_links_in_a_line = record {
  net = in_a_line (link 0 0 1 10 125 600000000) (link 1 1 2 10 125 600000000) [];
  queue = queue.Point;
  delta = 6;
  horizon = 60;
  trips = trip 0 5 ∷ trip 1 15 ∷ trip 2 25 ∷ [];
  routes = repeat 3 both;
}

two_links_in_a_line-entries :
    journeys 3 (trace_after two_links_in_a_line 46)
    ≡ (5 ∷ 15 ∷ []) ∷ (15 ∷ 25 ∷ []) ∷ (25 ∷ 35 ∷ []) ∷ []
unfolding loadings_on_literals trip two_links_in_a_line
two_links_in_a_line-entries = refl

two_links_in_a_line-arrivals :
    arrivals 3 (trace_after two_links_in_a_line 46) ≡ Some 25 ∷ Some 35 ∷ Some 45 ∷ []
unfolding loadings_on_literals trip two_links_in_a_line
two_links_in_a_line-arrivals = refl

two_links_in_a_line-state :
    eight_after two_links_in_a_line 20
    ≡ record { steps = 20; waiting = 0; running = 2; arrived = 0; first = 1 ∷ 1 ∷ 0 ∷ 0 ∷ [] }
unfolding loadings_on_literals trip two_links_in_a_line
two_links_in_a_line-state = refl

-- a turn without a limit in the step may be taken however often it was
no_limit_in_a_window :
    (used : ℕ) → map (λ t. has_pass two_links_in_a_line opened t used) (2 ∷ 9 ∷ [])
    ≡ true ∷ true ∷ []
unfolding loadings_on_literals
no_limit_in_a_window used = refl

a_limit_before_the_window :
    map (has_pass two_links_in_a_line opened 1) (0 ∷ 1 ∷ []) ≡ true ∷ false ∷ []
unfolding loadings_on_literals two_links_in_a_line
a_limit_before_the_window = refl

-- ---- the second link lets nobody in from step 20 to step 39
unfoldable pub windows_turn_red : Plan
windows_turn_red = record two_links_in_a_line {
  net = record (in_a_line (link 0 0 1 10 125 600000000) (link 1 1 2 10 125 600000000) []) {
    link_windows = [] ∷ (window 0 (Some 600000000) ∷ window 20 (Some 0)
        ∷ window 40 (Some 600000000) ∷ []) ∷ [];
  };
}

windows_turn_red-entries :
    journeys 3 (trace_after windows_turn_red 52)
    ≡ (5 ∷ 15 ∷ []) ∷ (15 ∷ 40 ∷ []) ∷ (25 ∷ 41 ∷ []) ∷ []
unfolding loadings_on_literals trip two_links_in_a_line windows_turn_red
windows_turn_red-entries = refl

windows_turn_red-arrivals :
    arrivals 3 (trace_after windows_turn_red 52) ≡ Some 40 ∷ Some 50 ∷ Some 51 ∷ []
unfolding loadings_on_literals trip two_links_in_a_line windows_turn_red
windows_turn_red-arrivals = refl

-- ---- the turn between the links is closed until step 30, and then has no limit
unfoldable pub windows_turn_green : Plan
windows_turn_green = record two_links_in_a_line {
  net = record (in_a_line (link 0 0 1 10 125 600000000) (link 1 1 2 10 125 600000000)
      (record { a = number 0; b = number 1; penalty = 0; rate = None } ∷ [])) {
        turn_windows = (window 0 (Some 0) ∷ window 30 None ∷ []) ∷ [];
      };
}

windows_turn_green-entries :
    journeys 3 (trace_after windows_turn_green 46)
    ≡ (5 ∷ 30 ∷ []) ∷ (15 ∷ 31 ∷ []) ∷ (25 ∷ 35 ∷ []) ∷ []
unfolding loadings_on_literals trip two_links_in_a_line windows_turn_green
windows_turn_green-entries = refl

windows_turn_green-arrivals :
    arrivals 3 (trace_after windows_turn_green 46) ≡ Some 40 ∷ Some 41 ∷ Some 45 ∷ []
unfolding loadings_on_literals trip two_links_in_a_line windows_turn_green
windows_turn_green-arrivals = refl

-- ---- the second link has no capacity
unfoldable pub a_link_without_capacity : Plan
a_link_without_capacity =
    record two_links_in_a_line {
      net = in_a_line (link 0 0 1 10 125 600000000) (link 1 1 2 10 125 0) [];
    }

a_link_without_capacity-entries :
    journeys 3 (trace_after a_link_without_capacity 60) ≡ (5 ∷ []) ∷ (15 ∷ []) ∷ (25 ∷ []) ∷ []
unfolding loadings_on_literals trip two_links_in_a_line a_link_without_capacity
a_link_without_capacity-entries = refl

a_link_without_capacity-arrivals :
    arrivals 3 (trace_after a_link_without_capacity 60) ≡ None ∷ None ∷ None ∷ []
unfolding loadings_on_literals trip two_links_in_a_line a_link_without_capacity
a_link_without_capacity-arrivals = refl

-- ---- a turn of two penalty steps between the links
unfoldable pub turn_penalty : Plan
turn_penalty = record two_links_in_a_line {
  net = in_a_line (link 0 0 1 10 125 600000000) (link 1 1 2 10 125 600000000)
      (record { a = number 0; b = number 1; penalty = 2; rate = None } ∷ []);
}

turn_penalty-entries :
    journeys 3 (trace_after turn_penalty 48)
    ≡ (5 ∷ 17 ∷ []) ∷ (15 ∷ 27 ∷ []) ∷ (25 ∷ 37 ∷ []) ∷ []
unfolding loadings_on_literals trip two_links_in_a_line turn_penalty
turn_penalty-entries = refl

turn_penalty-arrivals : arrivals 3 (trace_after turn_penalty 48) ≡ Some 27 ∷ Some 37 ∷ Some 47 ∷ []
unfolding loadings_on_literals trip two_links_in_a_line turn_penalty
turn_penalty-arrivals = refl

-- ---- the second link stores ten vehicles. Of those on it, six leave in step 11, and make no room
-- in that step
unfoldable pub room_at_the_start_of_the_step : Plan
room_at_the_start_of_the_step = record {
  net = in_a_line (link 0 0 1 10 125 3600000000) (link 1 1 2 1 10 3600000000) [];
  queue = queue.Spatial;
  delta = 6;
  horizon = 60;
  trips = map (λ v. trip v 0) (numbers_below 12);
  routes = repeat 12 both;
}

room_at_the_start_of_the_step-entries :
    journeys 12 (trace_after room_at_the_start_of_the_step 14)
    ≡ repeat 6 ((0 ∷ 10 ∷ []) ∷ []) ++ repeat 4 ((1 ∷ 11 ∷ []) ∷ [])
    ++ repeat 2 ((1 ∷ 12 ∷ []) ∷ [])
unfolding loadings_on_literals trip room_at_the_start_of_the_step
room_at_the_start_of_the_step-entries = refl

room_at_the_start_of_the_step-arrivals :
    arrivals 12 (trace_after room_at_the_start_of_the_step 14)
    ≡ repeat 6 (Some 11 ∷ []) ++ repeat 4 (Some 12 ∷ []) ++ repeat 2 (Some 13 ∷ [])
unfolding loadings_on_literals trip room_at_the_start_of_the_step
room_at_the_start_of_the_step-arrivals = refl

-- ---- the same with a backward wave, which takes three steps over the second link: the six that
-- left it in step 11 make room in step 14
unfoldable pub a_wave_frees_room : ℕ → Plan
a_wave_frees_room wave = record room_at_the_start_of_the_step {
  net = in_a_line (link 0 0 1 10 125 3600000000)
      (record (link 1 1 2 1 10 3600000000) { micrometres = 80000000 }) [];
  queue = queue.Newell wave;
}

steps_of_the_wave : map (wave_of (a_wave_frees_room 20)) (0 ∷ 1 ∷ []) ≡ 30 ∷ 3 ∷ []
unfolding loadings_on_literals room_at_the_start_of_the_step a_wave_frees_room
steps_of_the_wave = refl

a_wave_frees_room-rooms :
    map (λ t. room (a_wave_frees_room 20) 1 t (trace_after (a_wave_frees_room 20) t))
    (12 ∷ 13 ∷ 14 ∷ [])
    ≡ Some 0 ∷ Some 0 ∷ Some 6 ∷ []
unfolding loadings_on_literals trip room_at_the_start_of_the_step a_wave_frees_room
a_wave_frees_room-rooms = refl

a_wave_frees_room-entries :
    journeys 12 (trace_after (a_wave_frees_room 20) 16)
    ≡ repeat 6 ((0 ∷ 10 ∷ []) ∷ []) ++ repeat 4 ((1 ∷ 11 ∷ []) ∷ [])
    ++ repeat 2 ((1 ∷ 14 ∷ []) ∷ [])
unfolding loadings_on_literals trip room_at_the_start_of_the_step a_wave_frees_room
a_wave_frees_room-entries = refl

a_wave_frees_room-arrivals :
    arrivals 12 (trace_after (a_wave_frees_room 20) 16)
    ≡ repeat 6 (Some 11 ∷ []) ++ repeat 4 (Some 12 ∷ []) ++ repeat 2 (Some 15 ∷ [])
unfolding loadings_on_literals trip room_at_the_start_of_the_step a_wave_frees_room
a_wave_frees_room-arrivals = refl

-- a wave of three times the speed takes one step, and the rooms are those of the spatial queue
a_fast_wave : wave_of (a_wave_frees_room 60) 1 ≡ 1
unfolding loadings_on_literals room_at_the_start_of_the_step a_wave_frees_room
a_fast_wave = refl

a_fast_wave-entries :
    journeys 12 (trace_after (a_wave_frees_room 60) 14)
    ≡ journeys 12 (trace_after room_at_the_start_of_the_step 14)
unfolding loadings_on_literals trip room_at_the_start_of_the_step a_wave_frees_room
a_fast_wave-entries = refl

-- ---- the second link stores one vehicle
unfoldable pub storage_of_one : Plan
storage_of_one = record room_at_the_start_of_the_step {
  net = in_a_line (link 0 0 1 10 125 3600000000) (link 1 1 2 1 1 3600000000) [];
  trips = trip 0 0 ∷ trip 1 0 ∷ [];
  routes = repeat 2 both;
}

storage_of_one-entries :
    journeys 2 (trace_after storage_of_one 14) ≡ (0 ∷ 10 ∷ []) ∷ (0 ∷ 12 ∷ []) ∷ []
unfolding loadings_on_literals trip room_at_the_start_of_the_step storage_of_one
storage_of_one-entries = refl

storage_of_one-arrivals : arrivals 2 (trace_after storage_of_one 14) ≡ Some 11 ∷ Some 13 ∷ []
unfolding loadings_on_literals trip room_at_the_start_of_the_step storage_of_one
storage_of_one-arrivals = refl

-- ---- two links lead to one that takes a vehicle in a step; they take turns, the second of them
-- first
unfoldable pub two_links_merge : Plan
two_links_merge = record {
  net = record {
    nodes = node 1 ∷ record (node 1) { id = 4 } ∷ node 2 ∷ node 3 ∷ [];
    links = link 0 0 2 1 12 3600000000 ∷ link 1 1 2 1 12 3600000000
        ∷ link 2 2 3 1 12 600000000 ∷ [];
    turns = [];
    link_windows = [];
    turn_windows = [];
  };
  queue = queue.Point;
  delta = 6;
  horizon = 20;
  trips = map (λ v. trip v 0) (numbers_below 4);
  routes = repeat 2 (Some (number 0 ∷ number 2 ∷ []) ∷ [])
      ++ repeat 2 (Some (number 1 ∷ number 2 ∷ []) ∷ []);
}

two_links_merge-entries :
    journeys 4 (trace_after two_links_merge 8)
    ≡ (0 ∷ 2 ∷ []) ∷ (0 ∷ 4 ∷ []) ∷ (0 ∷ 1 ∷ []) ∷ (0 ∷ 3 ∷ []) ∷ []
unfolding loadings_on_literals trip two_links_merge
two_links_merge-entries = refl

two_links_merge-arrivals :
    arrivals 4 (trace_after two_links_merge 8) ≡ Some 3 ∷ Some 5 ∷ Some 2 ∷ Some 4 ∷ []
unfolding loadings_on_literals trip two_links_merge
two_links_merge-arrivals = refl

-- ---- units of a loading with two nodes: five in a step
two_nodes-starts :
    map (phase_start 2) (numbers_below 10) ≡ 0 ∷ 0 ∷ 2 ∷ 2 ∷ 4 ∷ 5 ∷ 5 ∷ 7 ∷ 7 ∷ 9 ∷ []
unfolding claims_on_literals
two_nodes-starts = refl

two_nodes-ends : map (phase_end 2) (numbers_below 10) ≡ 2 ∷ 2 ∷ 4 ∷ 4 ∷ 5 ∷ 7 ∷ 7 ∷ 9 ∷ 9 ∷ 10 ∷ []
unfolding claims_on_literals
two_nodes-ends = refl

-- three nodes and two links in a line: cells 0 to 2, mail 3 and 4, and 5 posts. A transfer takes
-- the mail of out-links, a gather that of in-links; the posting counts all cells
two_links_in_a_line-places :
    map (places two_links_in_a_line) (numbers_below 7)
    ≡ (0 ∷ 3 ∷ []) ∷ (1 ∷ 4 ∷ []) ∷ (2 ∷ []) ∷ (0 ∷ []) ∷ (1 ∷ 3 ∷ []) ∷ (2 ∷ 4 ∷ [])
    ∷ (0 ∷ 1 ∷ 2 ∷ 5 ∷ []) ∷ []
unfolding claims_on_literals loadings_on_literals two_links_in_a_line
two_links_in_a_line-places = refl

-- ---- workers that claim the units of one step of two nodes
unfoldable two_nodes : Plan
two_nodes = record two_links_in_a_line {
  net = record {
    nodes = node 1 ∷ node 3 ∷ [];
    links = link 0 0 1 10 125 600000000 ∷ [];
    turns = [];
    link_windows = [];
    turn_windows = [];
  };
  horizon = 1;
}

-- two workers: unit 2, of the second phase, may be opened once both units of the first are
-- finished
two_workers :
    outcomes_of two_nodes
    (event.Claim 0 ∷ event.Claim 1 ∷ event.Open 1 ∷ event.Finish 1 ∷ event.Claim 1 ∷ event.Open 1
    ∷ event.Open 0 ∷ event.Finish 0 ∷ event.Finish 0 ∷ event.Open 1 ∷ [])
    (all_idle 2)
    ≡ outcomes.Given 0 ∷ outcomes.Given 1 ∷ outcomes.Done ∷ outcomes.Done ∷ outcomes.Given 2
    ∷ outcomes.NotYet 1 ∷ outcomes.Done ∷ outcomes.Done ∷ outcomes.Misplaced ∷ outcomes.Done ∷ []
unfolding claims_on_literals loadings_on_literals two_links_in_a_line two_nodes
two_workers = refl

-- one worker does all five units one after another, and then has ended
abbrev one_round : List Event
one_round = event.Claim 0 ∷ event.Open 0 ∷ event.Finish 0 ∷ []

abbrev one_unit : ℕ → List Outcome
one_unit number = outcomes.Given number ∷ outcomes.Done ∷ outcomes.Done ∷ []

one_worker :
    outcomes_of two_nodes (repeat 5 one_round ++ event.Claim 0 ∷ event.Claim 0 ∷ []) (all_idle 1)
    ≡ flat_map one_unit (numbers_below 5) ++ outcomes.Over 5 ∷ outcomes.Misplaced ∷ []
unfolding claims_on_literals loadings_on_literals two_links_in_a_line two_nodes
one_worker = refl

one_worker-finished :
    finished two_nodes (run_machine two_nodes (repeat 5 one_round) (all_idle 1)) ≡ 5
unfolding claims_on_literals loadings_on_literals two_links_in_a_line two_nodes
one_worker-finished = refl

-- two workers that claim chunks: the first one's goes over the end of the phase, so that it opens
-- the two units of the first phase, and the other two once it has finished these
two_chunks :
    outcomes_of two_nodes
    (event.ClaimChunk 0 4 ∷ event.ClaimChunk 1 4 ∷ event.Open 1 ∷ event.Open 0 ∷ event.Open 0
    ∷ event.Finish 0 ∷ event.Open 1 ∷ event.Open 0 ∷ event.Finish 0 ∷ event.Open 1 ∷ event.Finish 1
    ∷ event.ClaimChunk 1 257 ∷ event.ClaimChunk 1 0 ∷ event.ClaimChunk 1 2 ∷ [])
    (all_idle 2)
    ≡ outcomes.GivenChunk 0 4 ∷ outcomes.GivenChunk 4 5 ∷ outcomes.NotYet 0 ∷ outcomes.Done
    ∷ outcomes.Misplaced ∷ outcomes.Done ∷ outcomes.NotYet 2 ∷ outcomes.Done ∷ outcomes.Done
    ∷ outcomes.Done ∷ outcomes.Done ∷ outcomes.Misplaced ∷ outcomes.Misplaced ∷ outcomes.Over 8
    ∷ []
unfolding claims_on_literals loadings_on_literals two_links_in_a_line two_nodes
two_chunks = refl
