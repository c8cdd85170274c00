use Rattle.std.proofs.Common.{◌≤◌}
use Rattle.labels.specs.Reading.Searches.{NoneEnds}
use Rattle.labels.specs.Reading.SearchesTo.{IsSearchedTo}
use Rattle.labels.proofs.reading.fewest.go_on_all.Given as goal

abbrev pub invariant-loop-place : goal.invariant-loop-place
invariant-loop-place l =
    (l.layer.from ≤ l.place)
    × IsSearchedTo l.labels l.aim.firsts.now l.aim.step l.aim.least l.search.reached.items l.place l.layer.to l.layer.links
    × NoneEnds l.labels.router.now l.labels.zone l.search.reached.items l.layer.from l.layer.to
