use Rattle.std.proofs.Common.{◌≡◌, ◌+◌, ◌*◌, ◌<◌}
use Rattle.dta_model.specs.LinkTimes.{buckets_to}
use Rattle.trip_costs.specs.Entries.{AreEntryNumbers, entry_before}
use Rattle.trip_costs.proofs.entries.add_link.Given as goal

abbrev pub invariant-loop-bucket : goal.invariant-loop-bucket
invariant-loop-bucket l = AreEntryNumbers l.waits (l.link.0 * buckets_to l.waits.bucket l.waits.horizon + l.bucket) l.numbers.items
    × (l.bucket < buckets_to l.waits.bucket l.waits.horizon → l.before ≡ entry_before l.waits l.link.0 l.bucket)
