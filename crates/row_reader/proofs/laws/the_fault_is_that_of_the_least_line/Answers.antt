use Rattle.row_reader.proofs.LawsFacts.{fault-both}
use Rattle.row_reader.proofs.laws.the_fault_is_that_of_the_least_line.Goals as goal

pub returns : goal.returns
returns g c = fault-both
