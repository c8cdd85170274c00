use Rattle.traffic_laws.proofs.FreeLinks.{times_are_free}
use Rattle.traffic_laws.proofs.free_flow.links_take_free_flow_where_nothing_binds.Goals as goal

pub returns : goal.returns
returns c = times_are_free
