-- Small worked cases of the definitions. Steps are of six seconds; a rate of 600,000,000 is one
-- vehicle in such a step.
use Rattle.std.specs.Prelude.{◌≡◌, List, [], ◌∷◌, Some, None, map, refl}
use Rattle.std.specs.List.{repeat}
use Rattle.net_core.specs.Network.{numbers_below}
use Rattle.net_core.specs.declared.rows.NetRows.{NetRows}
use Rattle.dta_model.specs.Examples.{link, node, number, in_a_line, both, trip, two_links_in_a_line}
use Rattle.dta_model.specs.LinkTimes.{TimeTable, by_bucket, table_in, table_of, time_at, visits}
use Rattle.dta_model.specs.LinkTimes.{visits_in}
use Rattle.dta_model.specs.Loading.{journeys_of}
use Rattle.dta_model.specs.OnLiterals.{loadings_on_literals}
use Rattle.dta_model.specs.Trace.{Move, Onto, Arrived}
use Rattle.dta_model.specs.declared.plan.Plan.{Plan}
use Rattle.dta_model.specs.declared.queue.Queue.TheVariants as queue

-- ---- two links of ten steps, and one vehicle in a step
two_links : table_of two_links_in_a_line 50 ≡ record {
  bucket = 50;
  horizon = 60;
  free = 10 ∷ 10 ∷ [];
  times = 10 ∷ 10 ∷ 10 ∷ 10 ∷ [];
  entered = 3 ∷ 0 ∷ 3 ∷ 0 ∷ [];
}
unfolding loadings_on_literals trip two_links_in_a_line table_in by_bucket visits_in visits
two_links = refl

pub two_links-journeys : journeys_of two_links_in_a_line ≡
    record { entries = 5 ∷ 15 ∷ []; arrival = Some 25 }
    ∷ record { entries = 15 ∷ 25 ∷ []; arrival = Some 35 }
    ∷ record { entries = 25 ∷ 35 ∷ []; arrival = Some 45 }
    ∷ []
unfolding loadings_on_literals trip two_links_in_a_line
two_links-journeys = refl

-- ---- the second link has no capacity: visits of 55, 45 and 35 steps don't end
unfoldable without_capacity : Plan
without_capacity = record two_links_in_a_line {
  net = in_a_line (link 0 0 1 10 125 600000000) (link 1 1 2 10 125 0) [];
}

a_link_without_capacity : table_of without_capacity 50 ≡ record {
  bucket = 50;
  horizon = 60;
  free = 10 ∷ 10 ∷ [];
  times = 45 ∷ 10 ∷ 10 ∷ 10 ∷ [];
  entered = 3 ∷ 0 ∷ 0 ∷ 0 ∷ [];
}
unfolding loadings_on_literals trip two_links_in_a_line without_capacity table_in by_bucket
    visits_in visits
a_link_without_capacity = refl

-- ---- a narrow second link and a way round it. All four take the narrow link, and wait on the
-- first one
abbrev narrow_net : NetRows
narrow_net = record {
  nodes = node 1 ∷ node 2 ∷ node 3 ∷ [];
  links = link 20 0 1 10 125 3600000000 ∷ link 30 1 2 10 125 600000000
      ∷ link 40 0 2 21 262 3600000000 ∷ [];
  turns = [];
  link_windows = [];
  turn_windows = [];
}

unfoldable over_the_narrow_link : Plan
over_the_narrow_link = record {
  net = narrow_net;
  queue = queue.Point;
  delta = 6;
  horizon = 60;
  trips = map (λ v. trip v 0) (numbers_below 4);
  routes = repeat 4 both;
}

a_narrow_link : table_of over_the_narrow_link 50 ≡ record {
  bucket = 50;
  horizon = 60;
  free = 10 ∷ 10 ∷ 21 ∷ [];
  times = 12 ∷ 10 ∷ 10 ∷ 10 ∷ 21 ∷ 21 ∷ [];
  entered = 4 ∷ 0 ∷ 4 ∷ 0 ∷ 0 ∷ 0 ∷ [];
}
unfolding loadings_on_literals trip over_the_narrow_link table_in by_bucket visits_in visits
a_narrow_link = refl

-- two of them take the way round
unfoldable two_ways : Plan
two_ways = record over_the_narrow_link {
  routes = Some (number 2 ∷ []) ∷ Some (number 0 ∷ number 1 ∷ [])
      ∷ Some (number 2 ∷ []) ∷ Some (number 0 ∷ number 1 ∷ []) ∷ [];
}

a_way_round : table_of two_ways 50 ≡ record {
  bucket = 50;
  horizon = 60;
  free = 10 ∷ 10 ∷ 21 ∷ [];
  times = 11 ∷ 10 ∷ 10 ∷ 10 ∷ 21 ∷ 21 ∷ [];
  entered = 2 ∷ 0 ∷ 2 ∷ 0 ∷ 2 ∷ 0 ∷ [];
}
unfolding loadings_on_literals trip over_the_narrow_link two_ways table_in by_bucket visits_in
    visits
a_way_round = refl

-- ---- a turn of two penalty steps between the links: the first one still takes ten
unfoldable with_penalty : Plan
with_penalty = record two_links_in_a_line {
  net = in_a_line (link 0 0 1 10 125 600000000) (link 1 1 2 10 125 600000000)
      (record { a = number 0; b = number 1; penalty = 2; rate = None } ∷ []);
}

turn_penalty : (table_of with_penalty 50).times ≡ 10 ∷ 10 ∷ 10 ∷ 10 ∷ []
unfolding loadings_on_literals trip two_links_in_a_line with_penalty table_in by_bucket visits_in
    visits
turn_penalty = refl

-- ---- a mean of visits of 10 and 11 steps is rounded up, and a bucket is that of the entry
five_moves : List Move
five_moves =
    record { step = 3; vehicle = 0; target = Onto 0 }
    ∷ record { step = 4; vehicle = 1; target = Onto 0 }
    ∷ record { step = 13; vehicle = 0; target = Onto 1 }
    ∷ record { step = 15; vehicle = 1; target = Onto 1 }
    ∷ record { step = 23; vehicle = 0; target = Arrived } ∷ []

rounded_up : table_in two_links_in_a_line 10 five_moves ≡ record {
  bucket = 10;
  horizon = 60;
  free = 10 ∷ 10 ∷ [];
  times = 11 ∷ 10 ∷ 10 ∷ 10 ∷ 10 ∷ 10 ∷ 10 ∷ 28 ∷ 10 ∷ 10 ∷ 10 ∷ 10 ∷ [];
  entered = 2 ∷ 0 ∷ 0 ∷ 0 ∷ 0 ∷ 0 ∷ 0 ∷ 2 ∷ 0 ∷ 0 ∷ 0 ∷ 0 ∷ [];
}
unfolding loadings_on_literals trip two_links_in_a_line five_moves table_in by_bucket visits_in
    visits
rounded_up = refl

-- ---- a horizon of 60 steps has two buckets of 50; from the horizon on a link takes its free-flow
-- steps
abbrev given : TimeTable
given = record {
  bucket = 50;
  horizon = 60;
  free = 10 ∷ [];
  times = 300 ∷ 20 ∷ [];
  entered = 0 ∷ 0 ∷ [];
}

read : (time_at given 0 49 ≡ 300) × (time_at given 0 50 ≡ 20)
    × (time_at given 0 59 ≡ 20) × (time_at given 0 60 ≡ 10)
unfolding time_at
read = (refl, refl, refl, refl)
