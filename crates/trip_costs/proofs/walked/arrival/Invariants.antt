use Rattle.std.proofs.Common.{◌≡◌, ◌+◌, ◌*◌, ◌<◌, ◌≤◌, length, drop}
use Rattle.dta_model.specs.Plans.{link_numbers}
use Rattle.dta_model.specs.TimedWalks.{arrival_after}
use Rattle.trip_costs.specs.Costs.{most_of_a_link}
use Rattle.trip_costs.specs.WalkCosts.{steps_in}
use Rattle.trip_costs.proofs.walked.arrival.Given as goal

abbrev pub invariant-loop-next : goal.invariant-loop-next
invariant-loop-next l =
    (arrival_after (steps_in l.costs) l.net l.step l.link.0 (link_numbers (drop l.next-index l.others)) ≡ arrival_after (steps_in l.costs) l.net l.entry l.fn.first.0 (link_numbers l.others))
    × (l.link.0 < length l.net.links)
    × (l.step ≤ l.entry + l.next-index * most_of_a_link)
    × (l.entry ≤ l.step)
