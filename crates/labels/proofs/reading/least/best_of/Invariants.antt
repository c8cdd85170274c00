use Rattle.labels.specs.Reading.OfZone.{first_to}
use Rattle.labels.specs.Reading.Serves.{BestSoFar}
use Rattle.labels.proofs.reading.least.best_of.Given as goal

abbrev pub invariant-loop-link : goal.invariant-loop-link
invariant-loop-link l = BestSoFar (first_to l.labels l.step) l.firsts l.link-index l.best
