use Rattle.std.proofs.Common.{◌≡◌, length}
use Rattle.row_reader.proofs.FirstFaultFacts.{State}
use Rattle.row_reader.proofs.accepted.accept_all.Given as goal

abbrev pub invariant-each : goal.invariant-each
invariant-each g l = record {
  state : State l.table g.A.Accepted.limit (g.A.Accepted.checks l.fn.accepted) l.fn.rows (g.A.Accepted.rows l.fn.accepted) l.rows (g.A.Accepted.rows l.accepted);
  checks : g.A.Accepted.checks l.accepted ≡ g.A.Accepted.checks l.fn.accepted;
}

abbrev pub decreases-each : goal.decreases-each
decreases-each g l = length l.rows.rest
