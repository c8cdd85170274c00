use Rattle.trip_costs.specs.WalkCosts.{enter_in, steps_in}
use Rattle.labels.specs.Reading.Fewest.{AreStarted}
use Rattle.labels.specs.Reading.OfZone.{label_to}
use Rattle.labels.specs.States.RouterWays.{state_of}
use Rattle.labels.proofs.reading.fewest.begin.Given as goal

abbrev pub invariant-loop-link : goal.invariant-loop-link
invariant-loop-link l =
    AreStarted (steps_in l.labels.costs) (label_to l.labels) (enter_in l.labels.costs) (state_of l.labels.router.now) l.aim.firsts.now l.aim.step l.aim.least l.link-index l.search.reached.items
