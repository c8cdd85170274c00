use Rattle.traffic_laws.proofs.Holding.{origins_are_held}
use Rattle.traffic_laws.proofs.waiting.an_origin_is_held_for_a_reason.Goals as goal

pub returns : goal.returns
returns c = origins_are_held
