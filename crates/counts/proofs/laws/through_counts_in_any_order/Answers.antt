use Rattle.counts.proofs.AnyOrder.{same_through_counts}
use Rattle.counts.proofs.laws.through_counts_in_any_order.Goals as goal

pub returns : goal.returns
returns c = same_through_counts
