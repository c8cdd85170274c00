-- The time that links take, by the step of entry.
use Rattle.std.specs.Prelude.{ℕ, zero, suc, ◌+◌, ◌-◌, ◌*◌, ◌/◌, cond, nat_eq, nat_lt, max, List, []}
use Rattle.std.specs.Prelude.{◌∷◌, length, Option, None, Some, slice_index, map, filter, find}
use Rattle.std.specs.Prelude.{sum_by}
use Rattle.std.specs.Int.{div_ceil}
use Rattle.std.specs.List.{flat_map}
use Rattle.net_core.specs.Network.{numbers_below}
use Rattle.net_core.specs.Network as network
use Rattle.net_core.specs.declared.rows.NetRows.{NetRows}
use Rattle.dta_model.specs.Loading.{trace_after}
use Rattle.dta_model.specs.Plans.{link_at, turn}
use Rattle.dta_model.specs.TimedWalks.{penalty_steps}
use Rattle.dta_model.specs.Trace.{Move, Target, Onto, Arrived, is_of, leads_to}
use Rattle.dta_model.specs.declared.plan.Plan.{Plan}

-- a visit to a link: one entry of a vehicle, and the steps that the link takes it
pub record Visit : Type 0 where
  pub entry : ℕ
  pub time : ℕ

-- the penalty of the turn that ends a visit to link l; an arrival has none
abbrev pub penalty_to : Plan → ℕ → Target → ℕ
penalty_to p l Arrived = 0
penalty_to p l (Onto b) = penalty_steps (turn p l b)

-- the steps from the entry to the vehicle's next move, less the penalty of the turn taken. A visit
-- that hasn't ended has the larger of the free-flow steps and the steps that are left to the
-- horizon
abbrev pub visit_time : Plan → ℕ → ℕ → Option Move → ℕ
visit_time p l entry None = max (link_at p l).free (p.horizon - entry)
visit_time p l entry (Some next) = next.step - entry - penalty_to p l next.target

-- the visit that begins with a move, by the moves after it
abbrev pub visit : Plan → ℕ → Move → List Move → Visit
visit p l m later = record {
  entry = m.step;
  time = visit_time p l m.step (find (is_of m.vehicle) later);
}

-- the visits to link l: the moves that lead to it
unfoldable pub visits : Plan → ℕ → List Move → List Visit
visits p l [] = []
visits p l (m ∷ later) =
    cond (leads_to l m) (visit p l m later ∷ visits p l later) (visits p l later)

-- those of a bucket: their entries are in it
unfoldable pub visits_in : Plan → ℕ → ℕ → ℕ → List Move → List Visit
visits_in p bucket l b T = filter (λ v. nat_eq (v.entry / bucket) b) (visits p l T)

-- the mean of so many times of this sum, rounded up; the free-flow steps where there is none
abbrev pub mean_time : ℕ → ℕ → ℕ → ℕ
mean_time free total zero = free
mean_time free total (suc others) = div_ceil total (suc others)

-- the time of a bucket
abbrev pub bucket_time : ℕ → List Visit → ℕ
bucket_time free vs = mean_time free (sum_by (λ v. v.time) vs) (length vs)

-- how many buckets there are up to the horizon; the last may be cut short by it
abbrev pub buckets_to : ℕ → ℕ → ℕ
buckets_to bucket horizon = div_ceil horizon bucket

-- times of links by buckets
pub record TimeTable : Type 0 where
  -- the length of a bucket, and the horizon, in steps
  pub bucket : ℕ
  pub horizon : ℕ
  -- the free-flow steps of each link
  pub free : List ℕ
  -- the time and the number of visits of each bucket, link by link, and within a link bucket by
  -- bucket
  pub times : List ℕ
  pub entered : List ℕ

abbrev pub bucket_count : TimeTable → ℕ
bucket_count t = buckets_to t.bucket t.horizon

-- where a bucket of a link stands
abbrev pub place_in : ℕ → ℕ → ℕ → ℕ
place_in buckets l b = l * buckets + b

-- how many visits a bucket has
unfoldable pub entered_in : TimeTable → ℕ → ℕ → ℕ
entered_in t l b = slice_index t.entered (place_in (bucket_count t) l b)

-- the steps that a link takes who enters it in a step: those of the step's bucket, and the
-- free-flow steps from the horizon on
unfoldable pub time_at : TimeTable → ℕ → ℕ → ℕ
time_at t l step =
    cond (nat_lt step t.horizon)
    (slice_index t.times (place_in (bucket_count t) l (step / t.bucket)))
    (slice_index t.free l)

-- a number for each bucket of each link
unfoldable pub by_bucket : ℕ → ℕ → (ℕ → ℕ → ℕ) → List ℕ
by_bucket links buckets f = flat_map (λ l. map (f l) (numbers_below buckets)) (numbers_below links)

-- the free-flow steps of the links of a network
abbrev pub free_steps : NetRows → List ℕ
free_steps net = map (λ link. link.free) net.links

-- the table of a trace
unfoldable pub table_in : Plan → ℕ → List Move → TimeTable
table_in p bucket T = record {
  bucket = bucket;
  horizon = p.horizon;
  free = free_steps p.net;
  times = by_bucket (length p.net.links) (buckets_to bucket p.horizon)
      (λ l b. bucket_time (link_at p l).free (visits_in p bucket l b T));
  entered = by_bucket (length p.net.links) (buckets_to bucket p.horizon)
      (λ l b. length (visits_in p bucket l b T));
}

-- the table of a loading
abbrev pub table_of : Plan → ℕ → TimeTable
table_of p bucket = table_in p bucket (trace_after p p.horizon)

-- the table without visits
unfoldable pub free_table : NetRows → ℕ → ℕ → TimeTable
free_table net bucket horizon = record {
  bucket = bucket;
  horizon = horizon;
  free = free_steps net;
  times = by_bucket (length net.links) (buckets_to bucket horizon)
      (λ l b. (network.link_at net l).free);
  entered = by_bucket (length net.links) (buckets_to bucket horizon) (λ l b. 0);
}
