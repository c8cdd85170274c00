use Rattle.traffic_laws.proofs.Storing.{storage_holds}
use Rattle.traffic_laws.proofs.storage.links_hold_no_more_than_their_storage.Goals as goal

pub returns : goal.returns
returns c = storage_holds
