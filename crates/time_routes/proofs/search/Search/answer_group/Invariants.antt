use Rattle.time_routes.specs.Searches.{Answers}
use Rattle.time_routes.specs.Tell.{LeadsToFirst}
use Rattle.time_routes.proofs.search.Search.answer_group.Given as goal

abbrev pub invariant-loop-place : goal.invariant-loop-place
invariant-loop-place l = Answers l.self (LeadsToFirst l.self.net.now l.self.trips.now l.self.asks.now l.zones l.place) l.initial.gathered.answers.items l.gathered.answers.items
