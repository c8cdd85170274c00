use Rattle.std.proofs.Common.{◌≡◌, ◌≤◌, ◌-◌}
use Rattle.loader.specs.Gates.{gate_of}
use Rattle.assignment.specs.Lent.{settings_in, traffic_in}
use Rattle.assignment.specs.Traffic.{AreRoutesOf}
use Rattle.assign_command.specs.Progress.{IsAt}
use Rattle.assign_command.specs.Receipts.{by_workers, numbers_in, taking_all}
use Rattle.assign_command.proofs.iterate.iterate.Given as goal

abbrev pub invariant-loop-number : goal.invariant-loop-number
invariant-loop-number g l = record {
  before : IsAt (settings_in l.assignment) (traffic_in l.assignment) l.number l.it.routes l.it.lines.items (g.D.Desk.state l.fn.desk).taken (g.D.Desk.state l.desk).taken;
  routes : AreRoutesOf (traffic_in l.assignment) l.it.routes;
  left : (g.D.Desk.state l.desk).left ≡ (g.D.Desk.state l.fn.desk).left;
  later : (g.D.Desk.state l.fn.desk).put_faults ≤ (g.D.Desk.state l.desk).put_faults;
  reads : (g.D.Desk.state l.desk).read_faults ≡ (g.D.Desk.state l.fn.desk).read_faults;
  receipts : gate_of g.G.Gate.closes g.G.Gate.last l.gate
      ≡ taking_all (by_workers (settings_in l.assignment).plain (l.number - 1)) (numbers_in (settings_in l.assignment) (traffic_in l.assignment))
      (gate_of g.G.Gate.closes g.G.Gate.last l.fn.gate);
}
