use Rattle.std.proofs.Common.{◌≤◌, ◌-◌, length, take}
use Rattle.sweep.specs.Scenarios.{AreScenarios}
use Rattle.sweep.proofs.rounds.all_scenarios.Given as goal

abbrev pub invariant-round : goal.invariant-round
invariant-round g l = record {
  within : l.from ≤ length l.scales;
  so_far : AreScenarios l.settings l.net l.cells (take l.from l.scales) l.kept.items;
}

abbrev pub decreases-round : goal.decreases-round
decreases-round g l = length l.scales - l.from
