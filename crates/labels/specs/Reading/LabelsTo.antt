-- What labels of one zone are: those of a group of it alone.
use Rattle.std.specs.Prelude.{◌≡◌, length, slice_index}
use Rattle.labels.specs.ToZone.{ToZone}
use Rattle.labels.specs.declared.reading.labels.Labels.TheInside.{Inside}

abbrev pub labels_of : Inside → ToZone
labels_of l = record {
  net = l.group.net;
  costs = l.group.costs;
  zone = slice_index l.group.zones 0;
}

abbrev pub IsAlone : Inside → Type 0
IsAlone l = length l.group.zones ≡ 1
