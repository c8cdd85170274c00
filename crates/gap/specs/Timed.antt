-- Trips over costs.
use Rattle.std.specs.Prelude.{◌≡◌, ◌≤◌, List, length}
use Rattle.net_core.specs.declared.rows.NetRows.{NetRows}
use Rattle.dta_model.specs.LinkTimes.{TimeTable}
use Rattle.dta_model.specs.declared.trip.TheConstants.{MOST_TRIPS}
use Rattle.dta_model.specs.declared.trip.Trip.{Trip}
use Rattle.link_times.specs.TimeTables.{IsShort}

-- a short table of the network's links, and no more trips than there may be
pub record AreTimed (net : NetRows) (times : TimeTable) (trips : List Trip) : Type 0 where
  pub table : length times.free ≡ length net.links
  pub short : IsShort times
  pub few : length trips ≤ MOST_TRIPS
