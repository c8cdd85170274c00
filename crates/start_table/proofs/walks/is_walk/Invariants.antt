use Rattle.std.proofs.Common.{ℕ, ◌<◌}
use Rattle.dta_model.specs.Plans.{link_numbers}
use Rattle.start_table.specs.Names.{EndsRight, TurnsOn}
use Rattle.start_table.proofs.walks.is_walk.Given as goal

abbrev pub invariant-loop-at : goal.invariant-loop-at
invariant-loop-at l = record {
  turns : (i : ℕ) → i < l.at → TurnsOn l.net (link_numbers l.links) i;
  ends : (i : ℕ) → i < l.at → EndsRight l.net l.destination (link_numbers l.links) i;
}
