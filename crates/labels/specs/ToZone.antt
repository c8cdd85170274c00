-- What labels are of: a network, the costs by which walks are timed, and zones by their numbers;
-- and what they tell.
use Rattle.std.specs.Prelude.{◌≡◌, ◌≤◌, ℕ, List, length, map, slice_index, take, Option}
use Rattle.std.specs.Prelude.{MatchOption}
use Rattle.net_core.specs.declared.rows.NetRows.{NetRows}
use Rattle.net_core.specs.declared.rows.LinkNo.{LinkNo}
use Rattle.net_core.specs.declared.rows.ZoneNo.{ZoneNo}
use Rattle.dta_model.specs.Least.{HaveNoWalk}
use Rattle.dta_model.specs.Plans.{link_numbers}
use Rattle.trip_costs.specs.Timings.{Timing}
use Rattle.trip_costs.specs.Costs.{CostTables}
use Rattle.trip_costs.specs.TripWalks.{IsChosenBy, IsLeastBy}
use Rattle.labels.specs.Named.{zone_named}
use Rattle.labels.specs.declared.reading.found.Walk.{Walk}

-- labels of one zone
pub record ToZone : Type 0 where
  pub net : NetRows
  pub costs : CostTables
  pub zone : ℕ

-- labels of a group of zones
pub record ToZones : Type 0 where
  pub net : NetRows
  pub costs : CostTables
  pub zones : List ℕ

-- zones as numbers
abbrev pub zone_numbers : List ZoneNo → List ℕ
zone_numbers zones = map (λ z. z.0) zones

-- labels of so many of the first of some zones
pub record AreOfFirst (rows : NetRows) (tables : CostTables) (zones : List ZoneNo) (group : ToZones)
    : Type 0 where
  pub net : group.net ≡ rows
  pub costs : group.costs ≡ tables
  pub some : 1 ≤ length group.zones
  pub few : length group.zones ≤ length zones
  pub first : group.zones ≡ zone_numbers (take (length group.zones) zones)

-- the identifier of the zone at a place of the group
abbrev pub destination : ToZones → ℕ → ℕ
destination group place = zone_named group.net (slice_index group.zones place)

-- the least time from zone o to zone d that starts in a step, or that there is no walk
abbrev pub TellsLeast : Timing → NetRows → ℕ → ℕ → ℕ → Option ℕ → Type 0
TellsLeast by net o d step told =
    MatchOption told (HaveNoWalk net o d) (λ time. IsLeastBy by net o d step time)

-- the chosen walk from zone o to zone d that starts in a step, or that there is no walk
abbrev pub TellsWalk : Timing → NetRows → ℕ → ℕ → ℕ → Option (List LinkNo) → Type 0
TellsWalk by net o d step told =
    MatchOption told (HaveNoWalk net o d) (λ links. IsChosenBy by net o d step (link_numbers links))

-- the chosen walk with the least time, or that there is no walk
abbrev pub TellsFound : Timing → NetRows → ℕ → ℕ → ℕ → Option Walk → Type 0
TellsFound by net o d step told = MatchOption told (HaveNoWalk net o d) (λ walk.
    IsLeastBy by net o d step walk.time × IsChosenBy by net o d step (link_numbers walk.route))
