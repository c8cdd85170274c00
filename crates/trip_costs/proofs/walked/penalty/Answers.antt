use Rattle.std.proofs.Common.{sym}
use Rattle.trip_costs.proofs.Walks.{penalty_short}
use Rattle.trip_costs.proofs.walked.penalty.Goals as goal

pub returns-in-Some-clause-short : goal.returns-in-Some-clause-short
returns-in-Some-clause-short c =
    penalty_short c.args.net.now c.args.a.0 c.args.b.0 c.in-Some.turn c.link_count-links.ensures.sound (sym c.in-Some.ensures.turn)
