use Rattle.trip_costs.proofs.Rising.{exits_never_fall}
use Rattle.trip_costs.proofs.laws.exits_never_fall.Goals as goal

pub returns : goal.returns
returns c = exits_never_fall
