use Rattle.grid_maker.proofs.DemandAccepted.{demand-accepted, demand-short, vehicles-are}
use Rattle.grid_maker.proofs.LinksAccepted.{links-accepted, links-short}
use Rattle.grid_maker.proofs.NodesAccepted.{nodes-accepted, nodes-short}
use Rattle.grid_maker.proofs.PlacesFacts.{link-count}
use Rattle.grid_maker.proofs.laws.grids_are_accepted.Goals as goal

pub returns : goal.returns
returns c n least most = record {
  nodes = nodes-accepted n most;
  links = links-accepted n most;
  demand = demand-accepted n most;
  short = (nodes-short n most, links-short n most, demand-short n most);
  link_count = link-count n;
  vehicle_count = vehicles-are n most;
}
