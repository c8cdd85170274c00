use Rattle.std.proofs.Common.{◌≡◌, ◌*◌, length}
use Rattle.std.specs.Prelude.{All}
use Rattle.time_routes.specs.Groups.{IsFound}
use Rattle.time_routes.specs.Searches.{TellsMore}
use Rattle.time_routes.specs.Tell.{AreAsMany, LeadsToFirst}
use Rattle.labels.specs.declared.reading.group_labels.TheConstants.{MOST_GROUP}
use Rattle.time_routes.proofs.vehicles.tell_shares.Given as goal

abbrev pub invariant-loop-group : goal.invariant-loop-group
invariant-loop-group g l =
    let s = l.groups.search.now in
    (length l.found.items ≡ l.count)
    × All (IsFound l.groups) l.found.items
    × AreAsMany l.told (length s.trips.now)
    × TellsMore s (LeadsToFirst s.net.now s.trips.now s.asks.now l.groups.zones.now (l.group * MOST_GROUP)) l.initial.told l.told
