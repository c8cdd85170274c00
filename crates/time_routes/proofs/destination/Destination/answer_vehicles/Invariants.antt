use Rattle.time_routes.specs.Searches.{Answers}
use Rattle.time_routes.specs.Tell.{StandsBefore}
use Rattle.time_routes.proofs.destination.Destination.answer_vehicles.Given as goal

abbrev pub invariant-loop-vehicle : goal.invariant-loop-vehicle
invariant-loop-vehicle l = Answers l.self.search.now (StandsBefore l.vehicles l.vehicle-index) l.initial.gathered.answers.items l.gathered.answers.items
