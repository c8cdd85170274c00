-- Small worked cases of walks over a table, and the numbers that stand for nothing.
use Rattle.std.specs.Prelude.{◌≡◌, ℕ, ◌-◌, ◌^◌, List, [], ◌∷◌, None, Some, true, false}
use Rattle.std.specs.Prelude.{refl}
use Rattle.std.specs.Cmp.Lexicographic.{slice_cmp}
use Rattle.std.specs.Ordering.{is_le, nat_cmp}
use Rattle.net_core.specs.Examples.{link, node}
use Rattle.net_core.specs.Network.{zones, turn, turn_at, is_named}
use Rattle.net_core.specs.Rows.{link_in}
use Rattle.net_core.specs.declared.rows.NetRows.{NetRows}
use Rattle.net_core.specs.declared.rows.TurnRow.{TurnRow}
use Rattle.dta_model.specs.LinkTimes.{TimeTable, time_at}
use Rattle.dta_model.specs.TimedWalks.{arrival_after, walk_time}
use Rattle.labels.specs.Filling.Labels.{most_span}
use Rattle.labels.specs.Named.{zone_named}
use Rattle.labels.specs.declared.states.zone_numbers.TheConstants.{NO_ZONE}
use Rattle.labels.specs.declared.filling.no_walk.TheConstants.{FAR, NARROW_FAR, SHORT_FAR}
use Rattle.labels.specs.declared.reading.group_labels.TheConstants.{MOST_GROUP}
use Rattle.labels.specs.declared.states.link_states.TheConstants.{NO_STATE}

-- ---- a loop that pays: link 1 takes 300 steps in the first bucket of fifty, and link 2 leads
-- back to its begin
abbrev pub loop : List TurnRow → NetRows
loop turns = record {
  nodes = node 1 (Some 1) ∷ node 2 None ∷ node 3 (Some 3) ∷ [];
  links = link 10 0 1 ∷ link 20 1 2 ∷ link 30 1 1 ∷ [];
  turns = turns;
  link_windows = [];
  turn_windows = [];
}

abbrev pub slow_at_first : TimeTable
slow_at_first = record {
  bucket = 50;
  horizon = 100;
  free = 10 ∷ 10 ∷ 10 ∷ [];
  times = 10 ∷ 10 ∷ 300 ∷ 10 ∷ 10 ∷ 10 ∷ [];
  entered = 0 ∷ 0 ∷ 0 ∷ 0 ∷ 0 ∷ 0 ∷ [];
}

-- ---- a further link, listed between the two of a line
abbrev pub parallel : List TurnRow → NetRows
parallel turns = record {
  nodes = node 1 (Some 1) ∷ node 2 None ∷ node 3 (Some 3) ∷ [];
  links = link 10 0 1 ∷ link 21 1 2 ∷ link 20 1 2 ∷ [];
  turns = turns;
  link_windows = [];
  turn_windows = [];
}

abbrev pub one_turn : List TurnRow
one_turn = record { a = record { 0 = 0 }; b = record { 0 = 2 }; penalty = 0; rate = None } ∷ []

-- the time of a walk over the table
abbrev time_of : List TurnRow → ℕ → List ℕ → ℕ
time_of turns start walk = walk_time (time_at slow_at_first) (loop turns) start walk

round_the_loop : time_of [] 30 (0 ∷ 2 ∷ 1 ∷ []) ≡ 30
unfolding arrival_after time_at turn turn_at is_named link_in
round_the_loop = refl

straight_on : time_of [] 30 (0 ∷ 1 ∷ []) ≡ 310
unfolding arrival_after time_at turn turn_at is_named link_in
straight_on = refl

-- from the horizon on a link takes its free-flow steps
straight_on_later : time_of [] 90 (0 ∷ 1 ∷ []) ≡ 20
unfolding arrival_after time_at turn turn_at is_named link_in
straight_on_later = refl

round_the_loop_later : time_of [] 90 (0 ∷ 2 ∷ 1 ∷ []) ≡ 30
unfolding arrival_after time_at turn turn_at is_named link_in
round_the_loop_later = refl

-- the penalty of a turn comes between the leaving of a link and the entry of the next
abbrev slow_turn : List TurnRow
slow_turn = record { a = record { 0 = 0 }; b = record { 0 = 1 }; penalty = 12; rate = None } ∷ []

after_a_penalty : time_of slow_turn 30 (0 ∷ 1 ∷ []) ≡ 32
unfolding arrival_after time_at turn turn_at is_named link_in
after_a_penalty = refl

-- ---- the order of walks: by the first link that differs
lower_link_first : is_le (slice_cmp nat_cmp (0 ∷ 1 ∷ []) (0 ∷ 2 ∷ 1 ∷ [])) ≡ true
lower_link_first = refl

higher_link_later : is_le (slice_cmp nat_cmp (0 ∷ 2 ∷ 1 ∷ []) (0 ∷ 1 ∷ [])) ≡ false
higher_link_later = refl

-- ---- zones are numbered in the order of their first appearance
second_zone : zone_named (loop []) 1 ≡ 3
unfolding zones
second_zone = refl

-- ---- limits
for_no_walk : FAR ≡ 2 ^ 62
for_no_walk = refl

for_no_walk_in_32_bits : NARROW_FAR ≡ 2 ^ 31
for_no_walk_in_32_bits = refl

for_no_walk_in_16_bits : SHORT_FAR ≡ 2 ^ 15
for_no_walk_in_16_bits = refl

for_no_state : NO_STATE ≡ 2 ^ 32 - 1
for_no_state = refl

most_zones_at_once : MOST_GROUP ≡ 8
most_zones_at_once = refl

for_no_zone : NO_ZONE ≡ 2 ^ 32 - 1
for_no_zone = refl

longest_span : most_span ≡ 4295003296
longest_span = refl
