use Rattle.std.proofs.Common.{◌≡◌, ◌+◌, ◌-◌, ◌*◌}
use Rattle.dta_model.specs.LinkTimes.{bucket_count}
use Rattle.trip_costs.specs.Latest.{AreLatestExits, latest_before}
use Rattle.trip_costs.specs.TripCosts.{after_time}
use Rattle.trip_costs.proofs.exits.add_link.Given as goal

abbrev pub invariant-loop-bucket : goal.invariant-loop-bucket
invariant-loop-bucket l = AreLatestExits l.times (l.link.0 * bucket_count l.times + l.bucket) l.latest.items
    × (l.before ≡ latest_before (after_time l.times l.link.0) l.times.bucket (l.bucket - 1))
