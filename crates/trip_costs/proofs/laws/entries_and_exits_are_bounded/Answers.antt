use Rattle.trip_costs.proofs.Agreeing.{entries_and_exits_are_bounded}
use Rattle.trip_costs.proofs.laws.entries_and_exits_are_bounded.Goals as goal

pub returns : goal.returns
returns c = entries_and_exits_are_bounded
