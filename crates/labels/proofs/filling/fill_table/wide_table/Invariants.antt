use Rattle.std.proofs.Common.{◌≡◌, length}
use Rattle.std.specs.Prelude.{All}
use Rattle.trip_costs.specs.WalkCosts.{steps_in}
use Rattle.labels.specs.Reading.Serves.{AreTablesLeft}
use Rattle.labels.specs.ToZone.{zone_numbers}
use Rattle.labels.proofs.filling.fill_table.wide_table.Given as goal

abbrev pub invariant-loop-place : goal.invariant-loop-place
invariant-loop-place l =
    (length l.tables.items ≡ l.place)
    × All (λ table. table.states ≡ length l.timed.router.now.zones.items) l.tables.items
    × AreTablesLeft (steps_in l.timed.costs) l.timed.router.now l.tables.items (zone_numbers l.zones)
