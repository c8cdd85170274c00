use Rattle.demand.proofs.DemandFacts.{are-cells}
use Rattle.row_reader.specs.Records.{records}
use Rattle.demand.proofs.demand_rows.read_demand.Goals as goal

pub returns-clause-sound : goal.returns-clause-sound
returns-clause-sound c = are-cells c.args.period c.requires.lasts (records c.args.text.now) _ c.in_ok-table.ensures
