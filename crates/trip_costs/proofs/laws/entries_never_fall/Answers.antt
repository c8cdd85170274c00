use Rattle.trip_costs.proofs.Rising.{entries_never_fall}
use Rattle.trip_costs.proofs.laws.entries_never_fall.Goals as goal

pub returns : goal.returns
returns c = entries_never_fall
