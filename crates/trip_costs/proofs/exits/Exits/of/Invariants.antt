use Rattle.std.proofs.Common.{◌*◌}
use Rattle.dta_model.specs.LinkTimes.{bucket_count}
use Rattle.trip_costs.specs.Latest.{AreLatestExits}
use Rattle.trip_costs.proofs.exits.Exits.of.Given as goal

abbrev pub invariant-loop-link : goal.invariant-loop-link
invariant-loop-link l = AreLatestExits l.fn.times (l.link * bucket_count l.fn.times) l.latest.items
