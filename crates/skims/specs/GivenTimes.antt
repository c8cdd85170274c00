-- The table of link times that rows tell: link by link, and within a link bucket by bucket.
use Rattle.std.specs.Prelude.{◌≡◌, ℕ, ◌*◌, ◌≤◌, List, length, map, replicate, All}
use Rattle.net_core.specs.declared.rows.NetRows.{NetRows}
use Rattle.dta_model.specs.LinkTimes.{TimeTable, buckets_to, free_steps}
use Rattle.skims.specs.declared.time_rows.TimeRow.{TimeRow}

-- a row for each bucket of each link, in which the link takes time
pub record AreRowsOf (net : NetRows) (bucket horizon : ℕ) (rows : List TimeRow) : Type 0 where
  pub as_many : length rows ≡ length net.links * buckets_to bucket horizon
  pub some : All (λ row. 1 ≤ row.travel) rows

-- their travel steps, and the free-flow steps of the links from the horizon on. No visit is
-- counted
abbrev pub table_given : NetRows → ℕ → ℕ → List TimeRow → TimeTable
table_given net bucket horizon rows = record {
  bucket = bucket;
  horizon = horizon;
  free = free_steps net;
  times = map (λ row. row.travel) rows;
  entered = replicate (length rows) 0;
}
