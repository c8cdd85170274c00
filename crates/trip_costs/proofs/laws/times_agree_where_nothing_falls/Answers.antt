use Rattle.trip_costs.proofs.Agreeing.{times_agree}
use Rattle.trip_costs.proofs.laws.times_agree_where_nothing_falls.Goals as goal

pub returns : goal.returns
returns c = times_agree
