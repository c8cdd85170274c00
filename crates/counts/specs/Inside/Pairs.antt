-- Vehicles that enter a link, gathered and counted.
use Rattle.std.specs.Ordering.{nat_cmp, ordering_then}
use Rattle.std.specs.declared.cmp.Ordering.{Ordering}
use Rattle.std.specs.Prelude.{◌≡◌, ℕ, ◌+◌, ◌<◌, Bool, ◌&&◌, nat_eq, List, All, count_by}
use Rattle.net_core.specs.Network.{numbers_below}
use Rattle.dta_model.specs.Loading.{trace_after}
use Rattle.dta_model.specs.declared.plan.Plan.{Plan}
use Rattle.counts.specs.Inside.Counting.{AreCounts, with_one}
use Rattle.counts.specs.Through.{above_zones, is_pair, number_through, through_count}
use Rattle.counts.specs.declared.through.ZonePair.{ZonePair}
use Rattle.counts.specs.declared.through_counts.ThroughCount.{ThroughCount}

-- the order in which pairs are put before they are counted
abbrev pub pair_order : ZonePair → ZonePair → Ordering
pair_order x y = ordering_then (nat_cmp x.origin y.origin) (nat_cmp x.destination y.destination)

pub record IsBelow (most : ℕ) (q : ZonePair) : Type 0 where
  pub origin : q.origin < most
  pub destination : q.destination < most

-- the zones of those of the first vehicles that enter link l
pub record ArePairs (p : Plan) (l vehicles : ℕ) (pairs : List ZonePair) : Type 0 where
  pub each : (q : ZonePair) → count_by (is_pair q) pairs
      ≡ number_through p l (trace_after p p.horizon) q (numbers_below vehicles)
  pub below : All (IsBelow (above_zones p.trips)) pairs

-- the counts of some of these pairs
abbrev pub ArePairCounts : List ZonePair → List ZonePair → List ThroughCount → Type 0
ArePairCounts = AreCounts pair_order is_pair through_count

abbrev pub is_count_of : ZonePair → ThroughCount → Bool
is_count_of q c = nat_eq q.origin c.origin && nat_eq q.destination c.destination

-- counts with one more of a pair
abbrev pub with_pair : ZonePair → List ThroughCount → List ThroughCount
with_pair q counts =
    with_one (is_count_of q) (λ c. record c { vehicles = c.vehicles + 1 }) (through_count q 1)
    counts
