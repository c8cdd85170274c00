use Rattle.net_core.proofs.ZonesFacts.{distinct-zones}
use Rattle.net_core.proofs.laws.zones_differ.Goals as goal

pub returns : goal.returns
returns c = distinct-zones
