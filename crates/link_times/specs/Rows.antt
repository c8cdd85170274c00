-- The times of a table once more, bucket by bucket.
use Rattle.std.specs.Prelude.{◌≡◌, ℕ, ◌/◌, ◌%◌, ◌<◌, List, [], length, slice_index}
use Rattle.dta_model.specs.LinkTimes.{place_in}
use Rattle.link_times.specs.declared.rows.Rows.{Rows}
use Rattle.link_times.specs.declared.rows.Rows.TheVariants as rows

-- the times that stand bucket by bucket
abbrev pub times_in : Rows → List ℕ
times_in rows.NoRows = []
times_in (rows.ByBucket xs) = xs.items

-- each of them is that of its link and bucket
abbrev pub AreRows : ℕ → ℕ → List ℕ → List ℕ → Type 0
AreRows links buckets times xs = (k : ℕ) → k < length xs
    → slice_index xs k ≡ slice_index times (place_in buckets (k % links) (k / links))

-- so many of them
pub record AreRowsTo (links buckets : ℕ) (times xs : List ℕ) (count : ℕ) : Type 0 where
  pub many : length xs ≡ count
  pub are : AreRows links buckets times xs
