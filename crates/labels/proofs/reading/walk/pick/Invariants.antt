use Rattle.std.proofs.Common.{ℕ, ◌<◌, get_or}
use Rattle.std.specs.Prelude.{◌≢◌}
use Rattle.trip_costs.specs.WalkCosts.{steps_in}
use Rattle.labels.specs.Filling.Labels.{far}
use Rattle.labels.specs.Filling.Rests.{over}
use Rattle.labels.specs.Filling.Tables.{rests}
use Rattle.labels.specs.declared.states.onward.Onward.{Onward}
use Rattle.labels.proofs.reading.walk.pick.Given as goal

abbrev pub invariant-loop-way : goal.invariant-loop-way
invariant-loop-way l = (k : ℕ) (d : Onward) → k < l.way-index → over (steps_in l.labels.costs) far (rests l.labels.table.now l.labels.place) l.step (get_or l.ways k d) ≢ l.left
