use Rattle.link_times.proofs.AnyOrder.{same_times}
use Rattle.link_times.proofs.laws.link_times_in_any_order.Goals as goal

pub returns : goal.returns
returns c = same_times
