use Rattle.std.proofs.Common.{◌≤◌, ◌<◌, ◌-◌, length}
use Rattle.capacity_credits.proofs.Courses.{window}
use Rattle.capacity_credits.proofs.course.latest.Given as goal

abbrev pub invariant-loop-place : goal.invariant-loop-place
invariant-loop-place l = record {
  within : l.place < length l.windows;
  begun : (window l.windows l.place).from ≤ l.step;
}

abbrev pub decreases-loop-place : goal.decreases-loop-place
decreases-loop-place l = length l.windows - l.place
