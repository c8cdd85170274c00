use Rattle.trip_costs.proofs.Rounds.{no_link_twice}
use Rattle.trip_costs.proofs.laws.no_chosen_trip_has_a_link_twice.Goals as goal

pub returns : goal.returns
returns c = no_link_twice
