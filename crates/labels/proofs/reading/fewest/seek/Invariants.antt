use Rattle.std.proofs.Common.{◌+◌, length}
use Rattle.labels.specs.Reading.SearchesTo.{IsSearchedTo}
use Rattle.labels.proofs.reading.fewest.seek.Given as goal

abbrev pub invariant-loop-links : goal.invariant-loop-links
invariant-loop-links l = IsSearchedTo l.labels l.aim.firsts.now l.aim.step l.aim.least l.search.reached.items l.from (length l.search.reached.items) (l.links + 1)
