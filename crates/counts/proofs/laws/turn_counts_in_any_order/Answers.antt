use Rattle.counts.proofs.AnyOrder.{same_turn_counts}
use Rattle.counts.proofs.laws.turn_counts_in_any_order.Goals as goal

pub returns : goal.returns
returns c = same_turn_counts
