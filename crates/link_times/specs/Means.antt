-- Times by the sums and numbers of their buckets.
use Rattle.std.specs.Prelude.{◌≡◌, ℕ, ◌/◌, ◌<◌, ◌≤◌, List, length, All, slice_index}
use Rattle.dta_model.specs.LinkTimes.{mean_time}
use Rattle.dta_model.specs.declared.loading.TheConstants.{MOST_HORIZON}

-- the first times are the means of their buckets
pub record AreMeans (free : List ℕ) (buckets : ℕ) (totals numbers times : List ℕ)
    (count : ℕ) : Type 0 where
  pub size : length times ≡ count
  pub each : (q : ℕ) → q < count → slice_index times q
      ≡ mean_time (slice_index free (q / buckets)) (slice_index totals q) (slice_index numbers q)
  pub least : All (λ x. 1 ≤ x) times
  pub most : All (λ x. x ≤ MOST_HORIZON) times

-- the first times are the free-flow steps of their links
pub record AreFree (free : List ℕ) (buckets : ℕ) (times : List ℕ) (count : ℕ) : Type 0 where
  pub size : length times ≡ count
  pub each : (q : ℕ) → q < count → slice_index times q ≡ slice_index free (q / buckets)
  pub least : All (λ x. 1 ≤ x) times
