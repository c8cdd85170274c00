-- Small worked cases of turn counts and through counts, and of their text.
use Rattle.std.specs.Fmt.{digits}
use Rattle.std.specs.Prelude.{◌≡◌, ℕ, List, [], ◌∷◌, Some, codes, refl, ⊤}
use Rattle.net_core.specs.Rows.{link_in}
use Rattle.net_core.specs.declared.rows.NetRows.{NetRows}
use Rattle.dta_model.specs.Examples.{in_a_line, link, node, number, trip, two_links_in_a_line}
use Rattle.dta_model.specs.Examples.{two_links_merge}
use Rattle.dta_model.specs.Loading.{journeys_of}
use Rattle.dta_model.specs.OnLiterals.{loadings_on_literals}
use Rattle.dta_model.specs.Trace.{Move, Onto}
use Rattle.dta_model.specs.declared.plan.Plan.{Plan}
use Rattle.counts.specs.Text.{counts_header, counts_text, through_line, through_lines, turn_line}
use Rattle.counts.specs.Text.{turn_lines}
use Rattle.counts.specs.Through.{above_zones, all_pairs, enters, goes_between, number_through}
use Rattle.counts.specs.Through.{pairs_from, through_counts, through_counts_in}
use Rattle.counts.specs.Turns.{all_turns, turns_between, turns_from, takes, taking, times_taken}
use Rattle.counts.specs.Turns.{turn_counts, turn_counts_in}
use Rattle.counts.specs.declared.through_counts.ThroughCount.{ThroughCount}
use Rattle.counts.specs.declared.turn_counts.TurnCount.{TurnCount}

-- what a proof unfolds to count on literals
unfoldable turns_on_literals : ⊤
unfolding turn_counts turn_counts_in all_turns turns_from turns_between times_taken taking takes
turns_on_literals = tt

unfoldable through_on_literals : ⊤
unfolding through_counts through_counts_in number_through goes_between enters above_zones all_pairs
    pairs_from
through_on_literals = tt

abbrev count : ℕ → ℕ → ℕ → ℕ → TurnCount
count a b bucket vehicles =
    record { a = number a; b = number b; bucket = bucket; vehicles = vehicles }

abbrev between : ℕ → ℕ → ℕ → ThroughCount
between origin destination vehicles =
    record { origin = origin; destination = destination; vehicles = vehicles }

-- ---- two links of ten steps: all three vehicles turn in the first fifty steps. An arrival is no
-- turn, nor is a departure
two_links : turn_counts two_links_in_a_line 50 ≡ count 0 1 0 3 ∷ []
unfolding loadings_on_literals trip two_links_in_a_line turns_on_literals
two_links = refl

-- in buckets of twenty steps, one vehicle turns in the first and two in the second, in steps 15,
-- 25 and 35
two_buckets : turn_counts two_links_in_a_line 20 ≡ count 0 1 0 1 ∷ count 0 1 1 2 ∷ []
unfolding loadings_on_literals trip two_links_in_a_line turns_on_literals
two_buckets = refl

through_the_second : through_counts two_links_in_a_line 1 ≡ between 1 3 3 ∷ []
unfolding loadings_on_literals trip two_links_in_a_line through_on_literals
through_the_second = refl

pub two_links-journeys : journeys_of two_links_in_a_line ≡
    record { entries = 5 ∷ 15 ∷ []; arrival = Some 25 }
    ∷ record { entries = 15 ∷ 25 ∷ []; arrival = Some 35 }
    ∷ record { entries = 25 ∷ 35 ∷ []; arrival = Some 45 }
    ∷ []
unfolding loadings_on_literals trip two_links_in_a_line
two_links-journeys = refl

-- ---- two links lead to a third, and two vehicles come over each
two_merge : turn_counts two_links_merge 20 ≡ count 0 2 0 2 ∷ count 1 2 0 2 ∷ []
unfolding loadings_on_literals trip two_links_merge turns_on_literals
two_merge = refl

through_the_first : through_counts two_links_merge 0 ≡ between 1 3 2 ∷ []
unfolding loadings_on_literals trip two_links_merge through_on_literals
through_the_first = refl

pub two_merge-journeys : journeys_of two_links_merge ≡
    record { entries = 0 ∷ 2 ∷ []; arrival = Some 3 }
    ∷ record { entries = 0 ∷ 4 ∷ []; arrival = Some 5 }
    ∷ record { entries = 0 ∷ 1 ∷ []; arrival = Some 2 }
    ∷ record { entries = 0 ∷ 3 ∷ []; arrival = Some 4 }
    ∷ []
unfolding loadings_on_literals trip two_links_merge
two_merge-journeys = refl

-- ---- a link, a loop at its end, and a link on. The vehicle goes round the loop twice
abbrev with_a_loop : NetRows
with_a_loop = record {
  nodes = node 1 ∷ node 2 ∷ node 3 ∷ [];
  links = link 0 0 1 10 125 600000000 ∷ link 1 1 1 10 125 600000000
      ∷ link 2 1 2 10 125 600000000 ∷ [];
  turns = [];
  link_windows = [];
  turn_windows = [];
}

unfoldable twice_round : Plan
twice_round = record two_links_in_a_line {
  net = with_a_loop;
  trips = trip 0 0 ∷ [];
  routes = Some (number 0 ∷ number 1 ∷ number 1 ∷ number 2 ∷ []) ∷ [];
}

turns_round : turn_counts twice_round 60 ≡ count 0 1 0 1 ∷ count 1 1 0 1 ∷ count 1 2 0 1 ∷ []
unfolding loadings_on_literals trip two_links_in_a_line twice_round turns_on_literals
turns_round = refl

-- it enters the loop twice, and counts once
round_once : through_counts twice_round 1 ≡ between 1 3 1 ∷ []
unfolding loadings_on_literals trip two_links_in_a_line twice_round through_on_literals
round_once = refl

-- ---- vehicles between other zones: the pairs come by the values of the identifiers, whichever
-- vehicle comes first
unfoldable both_ways : Plan
both_ways = record two_links_in_a_line {
  trips =
      record { number = 0; origin = 5; destination = 2; departure = 0 }
      ∷ record { number = 1; origin = 2; destination = 5; departure = 0 }
      ∷ record { number = 2; origin = 2; destination = 4; departure = 0 } ∷ [];
}

three_moves : List Move
three_moves =
    record { step = 3; vehicle = 0; target = Onto 1 }
    ∷ record { step = 4; vehicle = 2; target = Onto 1 }
    ∷ record { step = 5; vehicle = 1; target = Onto 1 } ∷ []

by_value :
    through_counts_in both_ways 1 three_moves
    ≡ between 2 4 1 ∷ between 2 5 1 ∷ between 5 2 1 ∷ []
unfolding loadings_on_literals two_links_in_a_line both_ways three_moves through_on_literals
by_value = refl

-- ---- the text of counts of the first case, over a network whose links have other identifiers
-- than their places, in buckets of fifty steps up to step 60
abbrev tens : NetRows
tens = in_a_line (link 10 0 1 10 125 600000000) (link 20 1 2 10 125 600000000) []

unfoldable text_on_literals : ⊤
unfolding counts_text counts_header turn_lines turn_line through_lines through_line link_in digits
text_on_literals = tt

counts-out : counts_text tens (count 0 1 0 3 ∷ []) (between 1 3 3 ∷ []) 50 60
    ≡ codes "kind,first,second,from_step,to_step,vehicles\nturn,10,20,0,50,3\nthrough,1,3,0,60,3\n"
unfolding text_on_literals
counts-out = refl

-- the horizon cuts the second bucket short; without a link there are no through counts
cut_short : counts_text tens (count 1 0 1 12 ∷ []) [] 50 60
    ≡ codes "kind,first,second,from_step,to_step,vehicles\nturn,20,10,50,60,12\n"
unfolding text_on_literals
cut_short = refl

-- nothing was counted
no-counts : counts_text tens [] [] 50 60 ≡ codes "kind,first,second,from_step,to_step,vehicles\n"
unfolding text_on_literals
no-counts = refl
