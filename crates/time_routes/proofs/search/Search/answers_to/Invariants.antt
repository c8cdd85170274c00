use Rattle.std.proofs.Common.{◌-◌, ◌≤◌, [], length}
use Rattle.time_routes.specs.Searches.{Answers}
use Rattle.time_routes.specs.Tell.{LeadsToFirst}
use Rattle.time_routes.proofs.search.Search.answers_to.Given as goal

abbrev pub invariant-loop-first : goal.invariant-loop-first
invariant-loop-first l =
    Answers l.self (LeadsToFirst l.self.net.now l.self.trips.now l.self.asks.now l.zones l.first) [] l.gathered.answers.items
    × (l.first ≤ length l.zones)

abbrev pub decreases-loop-first : goal.decreases-loop-first
decreases-loop-first l = length l.zones - l.first
