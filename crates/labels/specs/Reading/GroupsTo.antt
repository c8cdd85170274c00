-- What the labels of a group keep.
use Rattle.std.specs.Prelude.{◌≡◌, ◌<◌, length, All}
use Rattle.net_core.specs.AreListed.{AreListed}
use Rattle.net_core.specs.Network.{IsNet, numbers_below, zones}
use Rattle.trip_costs.specs.WalkCosts.{AreTimed, steps_in, table_in, tables}
use Rattle.labels.specs.States.Onwards.{begin_zone}
use Rattle.labels.specs.Reading.Serves.{AreAllLeft, IsRouter}
use Rattle.labels.specs.ToZone.{ToZones, zone_numbers}
use Rattle.labels.specs.declared.reading.group_labels.GroupLabels.TheInside.{Inside}

abbrev pub group_of : Inside → ToZones
group_of l = record {
  net = l.net.now;
  costs = tables l.costs;
  zones = zone_numbers l.zones.items;
}

pub record AreFilled (l : Inside) : Type 0 where
  pub net : IsNet l.net.now
  pub timed : AreTimed l.costs
  pub table : length (table_in l.costs).free ≡ length l.net.now.links
  pub inside : All (λ z. z.0 < length (zones l.net.now.nodes)) l.zones.items
  pub router : IsRouter l.net.now l.router
  pub firsts : AreListed l.firsts (length (zones l.net.now.nodes)) (begin_zone l.net.now)
      (numbers_below (length l.net.now.links))
  pub left : AreAllLeft (steps_in l.costs) l.router l.labels (zone_numbers l.zones.items)
