use Rattle.cell_stages.proofs.LeadsOn.{routes_lead_on}
use Rattle.cell_stages.proofs.laws.routes_lead_on.Goals as goal

pub returns : goal.returns
returns c = routes_lead_on
