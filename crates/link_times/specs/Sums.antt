-- Sums over the visits of a bucket.
use Rattle.std.specs.Prelude.{◌≡◌, ℕ, zero, suc, ◌+◌, ◌*◌, ◌<◌, ◌≤◌, List, length, slice_index}
use Rattle.std.specs.Prelude.{sum_by}
use Rattle.dta_model.specs.LinkTimes.{visits_in, place_in}
use Rattle.dta_model.specs.Loading.{trace_after}
use Rattle.dta_model.specs.Trace.{Move, moves_of}
use Rattle.dta_model.specs.declared.loading.TheConstants.{MOST_HORIZON}
use Rattle.dta_model.specs.declared.plan.Plan.{Plan}

-- the sum of the times of the visits of a bucket, and their number
unfoldable pub total : Plan → ℕ → ℕ → ℕ → List Move → ℕ
total p bucket l b M = sum_by (λ v. v.time) (visits_in p bucket l b M)

unfoldable pub number : Plan → ℕ → ℕ → ℕ → List Move → ℕ
number p bucket l b M = sum_by (λ v. 1) (visits_in p bucket l b M)

-- the first numbers of a sequence added up
unfoldable pub sum_to : ℕ → (ℕ → ℕ) → ℕ
sum_to zero f = 0
sum_to (suc n) f = sum_to n f + f n

-- the visits of these moves are added to the sums and numbers of their buckets
pub record AreAdded (p : Plan) (bucket buckets : ℕ) (M : List Move)
    (old_sums old_counts sums counts : List ℕ) : Type 0 where
  pub sum_grew : (l b : ℕ) → l < length p.net.links → b < buckets
      → slice_index sums (place_in buckets l b)
      ≡ slice_index old_sums (place_in buckets l b) + total p bucket l b M
  pub count_grew : (l b : ℕ) → l < length p.net.links → b < buckets
      → slice_index counts (place_in buckets l b)
      ≡ slice_index old_counts (place_in buckets l b) + number p bucket l b M

-- no bucket has more visits, each of which took 1 to MOST_HORIZON steps
pub record AreWithin (most : ℕ) (sums counts : List ℕ) : Type 0 where
  pub few : (q : ℕ) → slice_index counts q ≤ most
  pub long : (q : ℕ) → slice_index counts q ≤ slice_index sums q
  pub short : (q : ℕ) → slice_index sums q ≤ slice_index counts q * MOST_HORIZON

-- some of the visits of these moves are added, those that are left are not yet
pub record AreLeft (p : Plan) (bucket buckets : ℕ) (M rest : List Move)
    (old_sums old_counts sums counts : List ℕ) : Type 0 where
  pub sum_left : (l b : ℕ) → l < length p.net.links → b < buckets
      → slice_index sums (place_in buckets l b) + total p bucket l b rest
      ≡ slice_index old_sums (place_in buckets l b) + total p bucket l b M
  pub count_left : (l b : ℕ) → l < length p.net.links → b < buckets
      → slice_index counts (place_in buckets l b) + number p bucket l b rest
      ≡ slice_index old_counts (place_in buckets l b) + number p bucket l b M

-- the visits of the first vehicles are added up
pub record AreSums (p : Plan) (bucket buckets vehicles : ℕ) (sums counts : List ℕ) : Type 0 where
  pub sum_is : (l b : ℕ) → l < length p.net.links → b < buckets
      → slice_index sums (place_in buckets l b)
      ≡ sum_to vehicles (λ v. total p bucket l b (moves_of v (trace_after p p.horizon)))
  pub count_is : (l b : ℕ) → l < length p.net.links → b < buckets
      → slice_index counts (place_in buckets l b)
      ≡ sum_to vehicles (λ v. number p bucket l b (moves_of v (trace_after p p.horizon)))
