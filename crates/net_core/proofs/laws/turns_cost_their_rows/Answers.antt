use Rattle.net_core.proofs.TurnsFacts.{listed-cost, other-free}
use Rattle.net_core.proofs.laws.turns_cost_their_rows.Goals as goal

pub returns-clause-listed : goal.returns-clause-listed
returns-clause-listed c = listed-cost

pub returns-clause-free : goal.returns-clause-free
returns-clause-free c = other-free
