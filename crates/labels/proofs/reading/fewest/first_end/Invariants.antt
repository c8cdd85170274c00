use Rattle.std.proofs.Common.{◌≤◌}
use Rattle.labels.specs.Reading.Searches.{NoneEnds}
use Rattle.labels.proofs.reading.fewest.first_end.Given as goal

abbrev pub invariant-loop-place : goal.invariant-loop-place
invariant-loop-place l = (l.from ≤ l.place) × NoneEnds l.labels.router.now l.labels.zone l.search.reached.items l.from l.place
