-- When first links are entered, by one number for each link and bucket of the departure.
use Rattle.std.specs.Prelude.{◌≡◌, ℕ, zero, suc, ◌+◌, ◌-◌, ◌*◌, ◌/◌, ◌≤◌, cond, nat_lt, max, min}
use Rattle.std.specs.Prelude.{List, slice_index}
use Rattle.dta_model.specs.LinkTimes.{buckets_to, place_in}
use Rattle.trip_costs.specs.Latest.{latest_before}
use Rattle.trip_costs.specs.Numbers.{AreNumbers}
use Rattle.trip_costs.specs.OriginWaits.{WaitTable}
use Rattle.trip_costs.specs.TripCosts.{after_wait}
use Rattle.trip_costs.specs.declared.entries.Entries.TheInside.{Inside}

-- the last step of a bucket before the horizon
abbrev pub last_step : ℕ → ℕ → ℕ → ℕ
last_step bucket horizon b = min (suc b * bucket) horizon - 1

-- the wait of who departs in a bucket for link l
abbrev pub wait_in : WaitTable → ℕ → ℕ → ℕ
wait_in w l b = slice_index w.waits (place_in (buckets_to w.bucket w.horizon) l b)

-- the latest entry of those who depart before a bucket
unfoldable pub entry_before : WaitTable → ℕ → ℕ → ℕ
entry_before w l b = latest_before (after_wait w l) w.bucket b

-- the number of a bucket: the later of that and of the bucket's last step with its wait, which may
-- end past the horizon
unfoldable pub entry_number : WaitTable → ℕ → ℕ → ℕ
entry_number w l b = max (entry_before w l b)
    (last_step w.bucket w.horizon b + min (wait_in w l b) w.horizon)

-- the numbers of the first of all links and buckets
abbrev pub AreEntryNumbers : WaitTable → ℕ → List ℕ → Type 0
AreEntryNumbers w count numbers =
    AreNumbers (entry_number w) (buckets_to w.bucket w.horizon) count numbers

-- the number of a bucket among these, and that of the bucket before it
abbrev pub number_at : List ℕ → ℕ → ℕ → ℕ → ℕ
number_at numbers buckets l b = slice_index numbers (place_in buckets l b)

abbrev pub number_before : List ℕ → ℕ → ℕ → ℕ → ℕ
number_before numbers buckets l zero = 0
number_before numbers buckets l (suc b) = number_at numbers buckets l b

-- the entry of who departs in a step before the horizon: that of the bucket's last step, less the
-- steps up to it, or else that of the bucket before; and never past the horizon
abbrev pub entry_among : ℕ → ℕ → ℕ → ℕ → ℕ → ℕ
entry_among horizon last before number step =
    max step (min (max before (step + number - last)) horizon)

-- entries by their numbers
pub record EntryTable : Type 0 where
  -- the length of a bucket, and the horizon, in steps
  pub bucket : ℕ
  pub horizon : ℕ
  -- the number of each bucket, link by link, and within a link bucket by bucket
  pub numbers : List ℕ

abbrev pub numbers_to : EntryTable → ℕ
numbers_to e = buckets_to e.bucket e.horizon

-- the step in which who departs in a step for link l enters it: from the horizon on nobody waits
unfoldable pub entry_at : EntryTable → ℕ → ℕ → ℕ
entry_at e l step =
    cond (nat_lt step e.horizon)
    (entry_among e.horizon (last_step e.bucket e.horizon (step / e.bucket))
    (number_before e.numbers (numbers_to e) l (step / e.bucket))
    (number_at e.numbers (numbers_to e) l (step / e.bucket)) step)
    step

abbrev pub entry_view : Inside → EntryTable
entry_view e = record { bucket = e.bucket; horizon = e.horizon; numbers = e.numbers.items }

pub record IsEntryTable (e : Inside) : Type 0 where
  pub lasts : 1 ≤ e.bucket
  pub buckets : e.buckets ≡ buckets_to e.bucket e.horizon
