use Rattle.std.proofs.Common.{ℕ, ◌+◌, ◌<◌, ◌^◌, List, ◌++◌, length}
use Rattle.trip_costs.specs.WalkCosts.{steps_in}
use Rattle.dta_model.specs.Plans.{link_numbers}
use Rattle.labels.specs.Filling.Labels.{far}
use Rattle.labels.specs.Reading.Follows.{Follows}
use Rattle.labels.specs.States.Routers.{ways_to}
use Rattle.labels.specs.Reading.Serves.{label_in, IsFollowed}
use Rattle.labels.specs.States.RouterWays.{state_of}
use Rattle.labels.specs.Filling.Tables.{rests}
use Rattle.labels.proofs.reading.walk.follow.Given as goal

abbrev pub invariant-loop-router : goal.invariant-loop-router
invariant-loop-router l =
    (l.link < length l.labels.router.now.states.items)
    × (rests l.labels.table.now l.labels.place (state_of l.labels.router.now l.link) (l.entry + steps_in l.labels.costs l.link l.entry) < far)
    × (l.entry + steps_in l.labels.costs l.link l.entry + rests l.labels.table.now l.labels.place (state_of l.labels.router.now l.link) (l.entry + steps_in l.labels.costs l.link l.entry) < 2 ^ 63)
    × ((others : List ℕ) → Follows (ways_to (steps_in l.labels.costs) l.labels.net.now l.labels.zone) (label_in (steps_in l.labels.costs) (rests l.labels.table.now l.labels.place) l.labels.router.now) l.link l.entry others → IsFollowed (ways_to (steps_in l.labels.costs) l.labels.net.now l.labels.zone) (label_in (steps_in l.labels.costs) (rests l.labels.table.now l.labels.place) l.labels.router.now) l.fn.first l.fn.step (link_numbers l.links.items ++ others))

abbrev pub decreases-loop-router : goal.decreases-loop-router
decreases-loop-router l = rests l.labels.table.now l.labels.place (state_of l.labels.router.now l.link) (l.entry + steps_in l.labels.costs l.link l.entry)
