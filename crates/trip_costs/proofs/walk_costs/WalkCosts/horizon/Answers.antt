use Rattle.std.proofs.Common.{subst}
use Rattle.link_times.specs.TimeTables.{IsTimeTable}
use Rattle.trip_costs.proofs.Timed.{timed_by}
use Rattle.trip_costs.proofs.walk_costs.WalkCosts.horizon.Goals as goal

pub returns-clause-timed : goal.returns-clause-timed
returns-clause-timed c = timed_by c.args.self.now (subst IsTimeTable c.times.ensures c.horizon.ensures.sound)
