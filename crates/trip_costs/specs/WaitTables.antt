-- What a table of waits at origins holds.
use Rattle.std.specs.Prelude.{◌≡◌, ◌≤◌}
use Rattle.dta_model.specs.LinkTimes.{buckets_to}
use Rattle.trip_costs.specs.OriginWaits.{WaitTable}
use Rattle.trip_costs.specs.declared.origin_waits.OriginWaits.TheInside.{Inside}

abbrev pub wait_view : Inside → WaitTable
wait_view w = record {
  bucket = w.bucket;
  horizon = w.horizon;
  waits = w.waits.items;
  departed = w.departed.items;
}

pub record IsWaitTable (w : Inside) : Type 0 where
  pub lasts : 1 ≤ w.bucket
  pub begins : 1 ≤ w.horizon
  pub buckets : w.buckets ≡ buckets_to w.bucket w.horizon
