use Rattle.worked_cases.proofs.OfTables.{free_many}
use Rattle.worked_cases.proofs.tests.zone_labels.free.Goals as goal

pub returns : goal.returns
returns c = free_many c.in_ok-times.times c.args.net.now 50 100 c.in_ok-times.ensures.table
