use Rattle.std.proofs.Common.{◌≢◌, ℕ, ◌<◌, [], get_or}
use Rattle.std.specs.Prelude.{All}
use Rattle.time_routes.specs.Tell.{Stands}
use Rattle.labels.specs.ToZone.{zone_numbers}
use Rattle.time_routes.proofs.search.Search.zones.Given as goal

abbrev pub invariant-loop-zone : goal.invariant-loop-zone
invariant-loop-zone l =
    All (λ zone. zone.0 < l.zone) l.found.items
    × ((z : ℕ) → z < l.zone → get_or l.self.lists z [] ≢ [] → Stands (zone_numbers l.found.items) z)
