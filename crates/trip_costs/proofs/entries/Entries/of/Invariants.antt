use Rattle.std.proofs.Common.{◌*◌}
use Rattle.dta_model.specs.LinkTimes.{buckets_to}
use Rattle.trip_costs.specs.Entries.{AreEntryNumbers}
use Rattle.trip_costs.proofs.entries.Entries.of.Given as goal

abbrev pub invariant-loop-link : goal.invariant-loop-link
invariant-loop-link l = AreEntryNumbers l.waits (l.link * buckets_to l.waits.bucket l.waits.horizon) l.numbers.items
