-- Labels of the first of some zones.
use Rattle.std.specs.Prelude.{ℕ, ◌≤◌, List, length, take}
use Rattle.net_core.specs.declared.rows.ZoneNo.{ZoneNo}
use Rattle.labels.specs.Reading.Serves.{AreAllLeft}
use Rattle.labels.specs.ToZone.{zone_numbers}
use Rattle.labels.specs.declared.filling.fill_table.Filled.{Filled}
use Rattle.labels.specs.declared.states.router.Router.{Router}

-- what is left to the first of some zones, to so many of them at least
pub record AreLeftToFirst (at : ℕ → ℕ → ℕ) (r : Router) (zones : List ZoneNo) (least : ℕ)
    (filled : Filled) : Type 0 where
  pub few : filled.count ≤ length zones
  pub enough : least ≤ filled.count
  pub left : AreAllLeft at r filled.table (zone_numbers (take filled.count zones))
