use Rattle.std.proofs.Common.{length, ◌-◌, ◌≡◌, ◌≤◌, take}
use Rattle.desk_io.specs.Desk.{grown}
use Rattle.desk_io.proofs.transfers.put_all.Given as goal

abbrev pub invariant-loop-at : goal.invariant-loop-at
invariant-loop-at g l = record {
  within : l.at ≤ length l.bytes;
  written : (g.D.Desk.state l.desk).taken ≡ grown l.output (take l.at l.bytes) (g.D.Desk.state l.initial.desk).taken;
  left : (g.D.Desk.state l.desk).left ≡ (g.D.Desk.state l.initial.desk).left;
  later : (g.D.Desk.state l.initial.desk).put_faults ≤ (g.D.Desk.state l.desk).put_faults;
  reads : (g.D.Desk.state l.desk).read_faults ≡ (g.D.Desk.state l.initial.desk).read_faults;
}

abbrev pub decreases-loop-at : goal.decreases-loop-at
decreases-loop-at g l = length l.bytes - l.at
