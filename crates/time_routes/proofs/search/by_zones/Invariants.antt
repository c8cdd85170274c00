use Rattle.std.proofs.Common.{◌≡◌, length, take}
use Rattle.std.specs.Prelude.{All}
use Rattle.net_core.specs.AreListed.{AreListed}
use Rattle.net_core.specs.Network.{numbers_below, zones}
use Rattle.time_routes.specs.Tell.{IsNamed, origins_of, wanted_zone}
use Rattle.time_routes.specs.declared.zone_memo.TheConstants.{PLACES}
use Rattle.time_routes.proofs.search.by_zones.Given as goal

abbrev pub invariant-loop-v : goal.invariant-loop-v
invariant-loop-v l = record {
  many : length l.seen.items ≡ PLACES;
  right : All (IsNamed l.net) l.seen.items;
  origins : l.origins.items ≡ origins_of l.net (take l.v l.trips);
  lists : AreListed l.lists (length (zones l.net.nodes)) (wanted_zone l.net l.trips l.asks) (numbers_below l.v);
}
