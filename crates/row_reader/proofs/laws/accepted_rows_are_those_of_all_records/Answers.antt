use Rattle.row_reader.proofs.LawsFacts.{accepted-both}
use Rattle.row_reader.proofs.laws.accepted_rows_are_those_of_all_records.Goals as goal

pub returns : goal.returns
returns g c = accepted-both
