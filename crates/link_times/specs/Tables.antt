-- What a table of link times holds, and how its numbers come.
use Rattle.std.specs.Prelude.{◌≡◌, ℕ, ◌*◌, ◌≤◌, List, length, All, replicate}
use Rattle.dta_model.specs.LinkTimes.{TimeTable, buckets_to}
use Rattle.link_times.specs.Rows.{times_in, AreRows}
use Rattle.link_times.specs.declared.table.Counts.{Counts}
use Rattle.link_times.specs.declared.table.Counts.TheVariants as counts
use Rattle.link_times.specs.declared.table.LinkTimes.TheInside.{Inside}

-- the numbers of visits of so many buckets
abbrev pub numbers_of : Counts → ℕ → List ℕ
numbers_of counts.NoVisits n = replicate n 0
numbers_of (counts.Narrow xs) n = xs.items
numbers_of (counts.Wide xs) n = xs.items

abbrev pub table_view : Inside → TimeTable
table_view t = record {
  bucket = t.bucket;
  horizon = t.horizon;
  free = t.free.items;
  times = t.times.items;
  entered = numbers_of t.counts (length t.times.items);
}

pub record IsTable (t : Inside) : Type 0 where
  pub lasts : 1 ≤ t.bucket
  pub begins : 1 ≤ t.horizon
  pub buckets : t.buckets ≡ buckets_to t.bucket t.horizon
  pub size : length t.times.items ≡ length t.free.items * t.buckets
  pub numbers : length (numbers_of t.counts (length t.times.items)) ≡ length t.times.items
  pub free : All (λ f. 1 ≤ f) t.free.items
  pub times : All (λ x. 1 ≤ x) t.times.items
  pub rows : AreRows (length t.free.items) t.buckets t.times.items (times_in t.rows)
