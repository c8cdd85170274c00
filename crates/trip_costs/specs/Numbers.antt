-- Numbers by link and bucket, one bucket of a link after the other.
use Rattle.std.specs.Prelude.{◌≡◌, ℕ, ◌<◌, List, length, slice_index}
use Rattle.dta_model.specs.LinkTimes.{place_in}

-- so many numbers, those of the first links and buckets
pub record AreNumbers (number : ℕ → ℕ → ℕ) (buckets count : ℕ) (numbers : List ℕ) : Type 0 where
  pub many : length numbers ≡ count
  pub each : (l b : ℕ) → b < buckets → place_in buckets l b < count
      → slice_index numbers (place_in buckets l b) ≡ number l b
