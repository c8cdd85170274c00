use Rattle.std.proofs.Common.{length}
use Rattle.time_routes.specs.Answers.{answered}
use Rattle.time_routes.specs.Searches.{TellsMore}
use Rattle.time_routes.specs.Tell.{AreAsMany, Stands}
use Rattle.time_routes.proofs.put_answers.put_answers.Given as goal

abbrev pub invariant-loop-answer : goal.invariant-loop-answer
invariant-loop-answer l =
    (goal.iterator-loop-answer).can_next l.answer-iterator ×
    (goal.iterator-loop-answer).is_finite l.answer-iterator
    × AreAsMany l.told (length l.search.trips.now)
    × TellsMore l.search (Stands (answered l.yielded)) l.initial.told l.told
