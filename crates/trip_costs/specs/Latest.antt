-- The latest exits of those who enter before a bucket.
use Rattle.std.specs.Prelude.{ℕ, zero, suc, ◌-◌, ◌*◌, ◌≤◌, List, length}
use Rattle.dta_model.specs.LinkTimes.{TimeTable, bucket_count}
use Rattle.dta_model.specs.declared.loading.TheConstants.{MOST_HORIZON}
use Rattle.link_times.specs.TimeTables.{IsShort}
use Rattle.trip_costs.specs.Greatest.{greatest_to}
use Rattle.trip_costs.specs.Numbers.{AreNumbers}
use Rattle.trip_costs.specs.TripCosts.{after_time}
use Rattle.trip_costs.specs.declared.exits.Exits.TheInside.{Inside}

-- the greatest of the numbers of all steps before a bucket, and 0 where there is none
unfoldable pub latest_before : (ℕ → ℕ) → ℕ → ℕ → ℕ
latest_before f bucket zero = 0
latest_before f bucket (suc b) = greatest_to f (suc b * bucket - 1)

-- the latest exit of those who enter before a bucket
abbrev pub latest_exit : TimeTable → ℕ → ℕ → ℕ
latest_exit t l b = latest_before (after_time t l) t.bucket b

-- the latest exits of the first of all links and buckets
abbrev pub AreLatestExits : TimeTable → ℕ → List ℕ → Type 0
AreLatestExits t count latest = AreNumbers (latest_exit t) (bucket_count t) count latest

-- those of all links, over a table of short times
pub record IsOfTimes (e : Inside) : Type 0 where
  pub latest :
      AreLatestExits e.times (length e.times.free * bucket_count e.times) e.latest.items
  pub short : IsShort e.times
  pub horizon : e.times.horizon ≤ MOST_HORIZON
