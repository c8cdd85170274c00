-- What is answered of groups of zones, as zones are cut into groups one after another.
use Rattle.std.specs.Prelude.{Option, IfSome}
use Rattle.std.specs.Fork.{slice_chunk}
use Rattle.time_routes.specs.Searches.{AreOfZones}
use Rattle.labels.specs.declared.reading.group_labels.TheConstants.{MOST_GROUP}
use Rattle.time_routes.specs.declared.groups.GroupAnswers.{GroupAnswers}
use Rattle.time_routes.specs.declared.groups.Groups.{Groups}

-- answers of the vehicles that go to the zones of a group, by its number
abbrev pub IsOfGroup : Groups → GroupAnswers → Type 0
IsOfGroup g of = AreOfZones g.search.now (slice_chunk g.zones.now MOST_GROUP of.group)
    of.answers.items

-- what is found of some group is of its zones
abbrev pub IsFound : Groups → Option GroupAnswers → Type 0
IsFound g found = IfSome found (IsOfGroup g)
