use Rattle.std.proofs.Common.{◌*◌, ◌-◌}
use Rattle.loader.proofs.crew.+crew+fn-crew-join_mut+arg2.Given as goal

abbrev pub decreases-crew : goal.decreases-crew
decreases-crew g l = 2 * l.count

abbrev pub decreases-join_mut+arg2 : goal.decreases-join_mut+arg2
decreases-join_mut+arg2 g l = 2 * l.count - 1
