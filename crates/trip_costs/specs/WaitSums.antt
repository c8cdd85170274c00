-- Waits at origins, added up by the first link of the route and the bucket of the departure.
use Rattle.std.specs.Prelude.{◌≡◌, ℕ, ◌-◌, ◌*◌, ◌<◌, ◌≤◌, ◌^◌, List, length, filter, slice_index}
use Rattle.std.specs.Prelude.{sum_by}
use Rattle.net_core.specs.Network.{numbers_below}
use Rattle.dta_model.specs.Lent.{plan_of}
use Rattle.dta_model.specs.LinkTimes.{buckets_to, mean_time, place_in}
use Rattle.dta_model.specs.Sound.{IsSound}
use Rattle.dta_model.specs.declared.loaded.Journey.{Journey}
use Rattle.dta_model.specs.declared.plan.Plan.{Plan}
use Rattle.trip_costs.specs.OriginWaits.{belongs, origin_wait}
use Rattle.trip_costs.specs.declared.adding.Buckets.{Buckets}

-- buckets of a sound loading, up to its horizon
pub record AreBuckets (b : Buckets) : Type 0 where
  pub sound : IsSound (plan_of b.loading)
  pub some : 1 ≤ b.steps
  pub all : b.count ≡ buckets_to b.steps b.loading.horizon

-- how many all links have
abbrev pub cells_of : Buckets → ℕ
cells_of b = length b.loading.net.now.links * b.count

-- no wait is longer than the greatest number of 32 bits
abbrev pub longest_wait : ℕ
longest_wait = 2 ^ 32 - 1

abbrev pub AreShortWaits : List ℕ → List ℕ → Type 0
AreShortWaits sums departed =
    (q : ℕ) → slice_index sums q ≤ slice_index departed q * longest_wait

-- those of the first vehicles who belong to a link and a bucket
unfoldable pub first_who_belong : Plan → ℕ → ℕ → ℕ → ℕ → List ℕ
first_who_belong p bucket l b count = filter (belongs p bucket l b) (numbers_below count)

-- the waits of the first vehicles are added up
pub record AreWaitSums (p : Plan) (bucket buckets : ℕ) (journeys : List Journey) (count : ℕ)
    (sums departed : List ℕ) : Type 0 where
  pub size : length sums ≡ length p.net.links * buckets
  pub many : length departed ≡ length sums
  pub sum_is : (l b : ℕ) → l < length p.net.links → b < buckets
      → slice_index sums (place_in buckets l b)
      ≡ sum_by (origin_wait p journeys) (first_who_belong p bucket l b count)
  pub departed_is : (l b : ℕ) → l < length p.net.links → b < buckets
      → slice_index departed (place_in buckets l b)
      ≡ length (first_who_belong p bucket l b count)
  pub few : (q : ℕ) → slice_index departed q ≤ count
  pub short : AreShortWaits sums departed

-- the first waits are the means of their buckets
pub record AreMeanWaits (sums departed waits : List ℕ) (count : ℕ) : Type 0 where
  pub size : length waits ≡ count
  pub each : (q : ℕ) → q < count
      → slice_index waits q ≡ mean_time 0 (slice_index sums q) (slice_index departed q)
