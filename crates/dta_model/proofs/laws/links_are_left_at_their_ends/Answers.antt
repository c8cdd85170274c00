use Rattle.dta_model.proofs.Left.{links_are_left_at_their_ends}
use Rattle.dta_model.proofs.laws.links_are_left_at_their_ends.Goals as goal

pub returns : goal.returns
returns c = links_are_left_at_their_ends
