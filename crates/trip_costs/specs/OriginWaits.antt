-- Waits at origins, by the first link of the route and the bucket of the departure.
use Rattle.std.specs.Prelude.{ℕ, ◌-◌, ◌/◌, ◌&&◌, Bool, false, cond, nat_eq, nat_lt, List, length}
use Rattle.std.specs.Prelude.{filter, sum_by, Option, None, Some, option_and_then, slice_get}
use Rattle.std.specs.Prelude.{slice_index}
use Rattle.dta_model.specs.LinkTimes.{buckets_to, by_bucket, mean_time, place_in}
use Rattle.dta_model.specs.Loading.{journeys_of}
use Rattle.dta_model.specs.Plans.{departure_of, first_link, vehicles_of}
use Rattle.dta_model.specs.declared.loaded.Journey.{Journey}
use Rattle.dta_model.specs.declared.plan.Plan.{Plan}

-- the steps from a departure to the first entry, or to the horizon where there is none
abbrev pub steps_to_entry : ℕ → ℕ → Option ℕ → ℕ
steps_to_entry horizon departs None = horizon - departs
steps_to_entry horizon departs (Some entry) = entry - departs

-- the step of a journey's first entry, if there is one
abbrev pub first_entry : Option Journey → Option ℕ
first_entry journey = option_and_then (λ j. slice_get j.entries 0) journey

-- the wait of a vehicle at its origin
unfoldable pub origin_wait : Plan → List Journey → ℕ → ℕ
origin_wait p journeys v =
    steps_to_entry p.horizon (departure_of p v) (first_entry (slice_get journeys v))

abbrev pub is_first : ℕ → Option ℕ → Bool
is_first l None = false
is_first l (Some first) = nat_eq first l

-- whether a vehicle belongs to link l and bucket b: its route begins with the link, and its
-- departure lies in the bucket
abbrev pub belongs : Plan → ℕ → ℕ → ℕ → ℕ → Bool
belongs p bucket l b v = is_first l (first_link p v) && nat_eq (departure_of p v / bucket) b

-- all who do
unfoldable pub who_belong : Plan → ℕ → ℕ → ℕ → List ℕ
who_belong p bucket l b = filter (belongs p bucket l b) (vehicles_of p)

-- the mean of their waits, rounded up, and 0 where there is none
unfoldable pub mean_wait : Plan → ℕ → List Journey → ℕ → ℕ → ℕ
mean_wait p bucket journeys l b =
    mean_time 0 (sum_by (origin_wait p journeys) (who_belong p bucket l b))
    (length (who_belong p bucket l b))

-- waits by buckets
pub record WaitTable : Type 0 where
  -- the length of a bucket, and the horizon, in steps
  pub bucket : ℕ
  pub horizon : ℕ
  -- the wait of each bucket and the number of vehicles that belong to it, link by link, and within
  -- a link bucket by bucket
  pub waits : List ℕ
  pub departed : List ℕ

-- the wait of who departs in a step for link l: that of the step's bucket, and none from the
-- horizon on
unfoldable pub wait_at : WaitTable → ℕ → ℕ → ℕ
wait_at w l step =
    cond (nat_lt step w.horizon)
    (slice_index w.waits (place_in (buckets_to w.bucket w.horizon) l (step / w.bucket)))
    0

-- the table of some journeys
unfoldable pub waits_in : Plan → ℕ → List Journey → WaitTable
waits_in p bucket journeys = record {
  bucket = bucket;
  horizon = p.horizon;
  waits = by_bucket (length p.net.links) (buckets_to bucket p.horizon)
      (mean_wait p bucket journeys);
  departed = by_bucket (length p.net.links) (buckets_to bucket p.horizon)
      (λ l b. length (who_belong p bucket l b));
}

-- the table of a loading
abbrev pub waits_of : Plan → ℕ → WaitTable
waits_of p bucket = waits_in p bucket (journeys_of p)
