use Rattle.std.proofs.Common.{◌≡◌, ◌≤◌, ◌-◌, length}
use Rattle.desk_io.specs.Desk.{before_left}
use Rattle.desk_io.proofs.transfers.read_table.Given as goal

abbrev pub invariant-loop-bytes : goal.invariant-loop-bytes
invariant-loop-bytes g l = record {
  within : length l.bytes.items ≤ l.limit;
  left : (g.D.Desk.state l.initial.desk).left ≡ before_left l.table l.bytes.items (g.D.Desk.state l.desk).left;
  taken : (g.D.Desk.state l.desk).taken ≡ (g.D.Desk.state l.initial.desk).taken;
  later : (g.D.Desk.state l.initial.desk).read_faults ≤ (g.D.Desk.state l.desk).read_faults;
  puts : (g.D.Desk.state l.desk).put_faults ≡ (g.D.Desk.state l.initial.desk).put_faults;
}

abbrev pub decreases-loop-bytes : goal.decreases-loop-bytes
decreases-loop-bytes g l = l.limit - length l.bytes.items
