use Rattle.trip_costs.proofs.Later.{links_are_the_table}
use Rattle.trip_costs.proofs.laws.links_are_the_table.Goals as goal

pub returns : goal.returns
returns c = links_are_the_table
