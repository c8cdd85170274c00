use Rattle.labels.specs.Filling.Labels.{far}
use Rattle.labels.specs.Reading.Fewest.{IsGoneOn}
use Rattle.labels.specs.Reading.OfZone.{rest_to}
use Rattle.trip_costs.specs.WalkCosts.{steps_in}
use Rattle.labels.proofs.reading.fewest.go_on.Given as goal

abbrev pub invariant-loop-way : goal.invariant-loop-way
invariant-loop-way l = IsGoneOn (steps_in l.labels.costs) far (rest_to l.labels) l.stand.place l.stand.step l.stand.left l.ways l.way-index l.fn.search.reached.items l.search.reached.items
