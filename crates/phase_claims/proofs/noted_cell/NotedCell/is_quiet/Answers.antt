use Rattle.std.proofs.Common.{◌<◌, subst, arith}
use Rattle.std.proofs.lemmas.Bool.Decides.{nat_tests}
use Rattle.node_transfer.specs.Rest.{IsQuiet}
use Rattle.phase_claims.proofs.noted_cell.NotedCell.is_quiet.Goals as goal

pub returns : goal.returns
returns c low =
    let early : c.args.step < c.self.inside.wake = grind (arith, nat_tests) in
    subst (IsQuiet c.args.step) c.self.view_is (c.self.invariant.quiet c.args.step early)
