-- Small worked cases of the definitions. Steps are of six seconds; a rate of 600,000,000 is one
-- vehicle in such a step.
use Rattle.std.specs.Prelude.{◌≡◌, [], ◌∷◌, true, false, map, refl}
use Rattle.std.specs.List.{repeat}
use Rattle.net_core.specs.Network.{numbers_below, turn, turn_at, is_named}
use Rattle.net_core.specs.Rows.{link_in}
use Rattle.net_core.specs.declared.rows.NetRows.{NetRows}
use Rattle.dta_model.specs.Examples.{link, node, in_a_line, both, trip, two_links_in_a_line}
use Rattle.dta_model.specs.LinkTimes.{TimeTable, by_bucket, time_at}
use Rattle.dta_model.specs.OnLiterals.{loadings_on_literals}
use Rattle.dta_model.specs.TimedWalks.{arrival_after}
use Rattle.dta_model.specs.declared.plan.Plan.{Plan}
use Rattle.dta_model.specs.declared.queue.Queue.TheVariants as queue
use Rattle.trip_costs.specs.Changes.{changes_after}
use Rattle.trip_costs.specs.Entries.{entry_at, entry_before, entry_number}
use Rattle.trip_costs.specs.Greatest.{greatest_to}
use Rattle.trip_costs.specs.Latest.{latest_before}
use Rattle.trip_costs.specs.OriginWaits.{WaitTable, mean_wait, origin_wait, wait_at, waits_in}
use Rattle.trip_costs.specs.OriginWaits.{waits_of, who_belong}
use Rattle.trip_costs.specs.TripCosts.{by_links, by_trips, enter_step, exit_step, time_by}

-- ---- four vehicles depart at once, and one enters in each step: waits of 0, 1, 2 and 3 steps
unfoldable four_at_once : Plan
four_at_once = record {
  net = in_a_line (link 10 0 1 1 12 600000000) (link 20 1 2 1 12 1800000000) [];
  queue = queue.Point;
  delta = 6;
  horizon = 20;
  trips = map (λ v. trip v 0) (numbers_below 4);
  routes = repeat 4 both;
}

a_mean_wait_is_rounded_up : waits_of four_at_once 10 ≡ record {
  bucket = 10;
  horizon = 20;
  waits = 2 ∷ 0 ∷ 0 ∷ 0 ∷ [];
  departed = 4 ∷ 0 ∷ 0 ∷ 0 ∷ [];
}
unfolding loadings_on_literals trip four_at_once waits_in by_bucket mean_wait origin_wait who_belong
a_mean_wait_is_rounded_up = refl

-- ---- the first link has no capacity: who departs in steps 5, 15 and 25 waits 55, 45 and 35 steps
unfoldable never_entered : Plan
never_entered = record two_links_in_a_line {
  net = in_a_line (link 10 0 1 10 125 0) (link 20 1 2 10 125 600000000) [];
}

waits_to_the_horizon : waits_of never_entered 50 ≡ record {
  bucket = 50;
  horizon = 60;
  waits = 45 ∷ 0 ∷ 0 ∷ 0 ∷ [];
  departed = 3 ∷ 0 ∷ 0 ∷ 0 ∷ [];
}
unfolding loadings_on_literals trip two_links_in_a_line never_entered waits_in by_bucket mean_wait
    origin_wait who_belong
waits_to_the_horizon = refl

-- ---- the bucket is that of the departure, not of the entry
unfoldable entered_later : Plan
entered_later = record four_at_once {
  trips = trip 0 1 ∷ trip 1 1 ∷ trip 2 1 ∷ trip 3 2 ∷ [];
}

by_the_departure : waits_of entered_later 2 ≡ record {
  bucket = 2;
  horizon = 20;
  waits = 1 ∷ 2 ∷ repeat 18 (0 ∷ []);
  departed = 3 ∷ 1 ∷ repeat 18 (0 ∷ []);
}
unfolding loadings_on_literals trip four_at_once entered_later waits_in by_bucket mean_wait
    origin_wait who_belong
by_the_departure = refl

-- ---- waits of four, six and three steps in buckets of five up to a horizon of 13 steps
abbrev pub some_waits : WaitTable
some_waits = record {
  bucket = 5;
  horizon = 13;
  waits = 4 ∷ 6 ∷ 3 ∷ [];
  departed = 12 ∷ 13 ∷ 5 ∷ [];
}

entries : map (enter_step some_waits 0) (0 ∷ 4 ∷ 5 ∷ 6 ∷ 7 ∷ 9 ∷ 10 ∷ 12 ∷ 13 ∷ 14 ∷ [])
    ≡ 4 ∷ 8 ∷ 11 ∷ 12 ∷ 13 ∷ 13 ∷ 13 ∷ 13 ∷ 13 ∷ 14 ∷ []
unfolding enter_step greatest_to wait_at
entries = refl

-- a wait that falls: who departs later enters no earlier than who departed before
falling_wait : map (enter_step (record some_waits { waits = 6 ∷ 0 ∷ 0 ∷ [] }) 0)
    (4 ∷ 5 ∷ 9 ∷ 10 ∷ 11 ∷ []) ≡ 10 ∷ 10 ∷ 10 ∷ 10 ∷ 11 ∷ []
unfolding enter_step greatest_to wait_at
falling_wait = refl

-- the numbers of these waits, and the entries that they tell
entry_numbers : map (entry_number some_waits 0) (0 ∷ 1 ∷ 2 ∷ []) ≡ 8 ∷ 15 ∷ 15 ∷ []
unfolding entry_number entry_before latest_before greatest_to wait_at
entry_numbers = refl

entries_by_numbers :
    map (entry_at (record { bucket = 5; horizon = 13; numbers = 8 ∷ 15 ∷ 15 ∷ [] }) 0)
    (0 ∷ 4 ∷ 5 ∷ 6 ∷ 7 ∷ 9 ∷ 10 ∷ 12 ∷ 13 ∷ 14 ∷ [])
    ≡ 4 ∷ 8 ∷ 11 ∷ 12 ∷ 13 ∷ 13 ∷ 13 ∷ 13 ∷ 13 ∷ 14 ∷ []
unfolding entry_at
entries_by_numbers = refl

-- ---- link times that rise and fall
abbrev pub rise_and_fall : TimeTable
rise_and_fall = record {
  bucket = 2;
  horizon = 10;
  free = 2 ∷ [];
  times = 3 ∷ 5 ∷ 3 ∷ 2 ∷ 2 ∷ [];
  entered = 0 ∷ 0 ∷ 0 ∷ 0 ∷ 0 ∷ [];
}

-- also two buckets later nobody passes who entered in step 3
exits : map (exit_step rise_and_fall 0) (0 ∷ 1 ∷ 2 ∷ 3 ∷ 4 ∷ 5 ∷ 6 ∷ 7 ∷ 9 ∷ 10 ∷ [])
    ≡ 3 ∷ 4 ∷ 7 ∷ 8 ∷ 8 ∷ 8 ∷ 8 ∷ 9 ∷ 11 ∷ 12 ∷ []
unfolding exit_step greatest_to time_at
exits = refl

-- ---- a link that nobody leaves: its time of 45 steps ends at the horizon
abbrev pub to_the_horizon : TimeTable
to_the_horizon = record {
  bucket = 50;
  horizon = 60;
  free = 10 ∷ [];
  times = 45 ∷ 10 ∷ [];
  entered = 3 ∷ 0 ∷ [];
}

no_later_than_the_horizon :
    map (exit_step to_the_horizon 0) (5 ∷ 15 ∷ 25 ∷ 50 ∷ 55 ∷ 60 ∷ 61 ∷ [])
    ≡ 50 ∷ 60 ∷ 60 ∷ 60 ∷ 65 ∷ 70 ∷ 71 ∷ []
unfolding exit_step greatest_to time_at
no_later_than_the_horizon = refl

-- ---- link 1 takes 300 steps in the first bucket, and link 2 leads back to its begin
abbrev pub loop : NetRows
loop = record {
  nodes = node 1 ∷ node 2 ∷ node 3 ∷ [];
  links = link 10 0 1 10 125 600000000 ∷ link 20 1 2 10 125 600000000
      ∷ link 30 1 1 10 125 600000000 ∷ [];
  turns = [];
  link_windows = [];
  turn_windows = [];
}

abbrev pub slow_at_first : TimeTable
slow_at_first = record {
  bucket = 50;
  horizon = 100;
  free = 10 ∷ 10 ∷ 10 ∷ [];
  times = 10 ∷ 10 ∷ 300 ∷ 10 ∷ 10 ∷ 10 ∷ [];
  entered = 0 ∷ 0 ∷ 0 ∷ 0 ∷ 0 ∷ 0 ∷ [];
}

abbrev no_waits : WaitTable
no_waits = record {
  bucket = 50;
  horizon = 100;
  waits = 0 ∷ 0 ∷ 0 ∷ 0 ∷ 0 ∷ 0 ∷ [];
  departed = 0 ∷ 0 ∷ 0 ∷ 0 ∷ 0 ∷ 0 ∷ [];
}

-- by link times a round pays, and by trips it takes as long as the way straight on
straight_on : map (λ costs. time_by costs loop 30 (0 ∷ 1 ∷ []))
    (by_links (time_at slow_at_first) ∷ by_trips slow_at_first no_waits ∷ []) ≡ 310 ∷ 70 ∷ []
unfolding exit_step enter_step greatest_to time_at wait_at arrival_after turn turn_at is_named
    link_in
straight_on = refl

once_round : map (λ costs. time_by costs loop 30 (0 ∷ 2 ∷ 1 ∷ []))
    (by_links (time_at slow_at_first) ∷ by_trips slow_at_first no_waits ∷ []) ≡ 30 ∷ 70 ∷ []
unfolding exit_step enter_step greatest_to time_at wait_at arrival_after turn turn_at is_named
    link_in
once_round = refl

-- a wait of 20 steps counts for the first link alone
after_a_wait : map (λ start. time_by
    (by_trips slow_at_first (record no_waits { waits = 20 ∷ 0 ∷ 20 ∷ 0 ∷ 20 ∷ 0 ∷ [] })) loop
    start (0 ∷ 1 ∷ [])) (20 ∷ 45 ∷ 60 ∷ []) ≡ 80 ∷ 55 ∷ 40 ∷ []
unfolding exit_step enter_step greatest_to time_at wait_at arrival_after turn turn_at is_named
    link_in
after_a_wait = refl

-- ---- who changes
after_the_first : map (λ v. changes_after v 1) (numbers_below 8)
    ≡ false ∷ true ∷ false ∷ false ∷ true ∷ true ∷ true ∷ true ∷ []
after_the_first = refl

after_the_second : map (λ v. changes_after v 2) (numbers_below 8)
    ≡ false ∷ false ∷ false ∷ true ∷ true ∷ false ∷ false ∷ true ∷ []
after_the_second = refl
