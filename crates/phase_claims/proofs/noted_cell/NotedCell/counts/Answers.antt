use Rattle.std.specs.Prelude.{IfSome}
use Rattle.std.proofs.Common.{◌≡◌, ap, ◌∙◌, subst}
use Rattle.node_transfer.proofs.OfStep.Totals.{counts-stage}
use Rattle.phase_claims.specs.Noted.{counts_of}
use Rattle.phase_claims.proofs.noted_cell.NotedCell.counts.Goals as goal

pub returns-in-Some : goal.returns-in-Some
returns-in-Some c p n sound node e =
    subst (λ known. IfSome known (λ noted. noted ≡ counts_of c.self.inside.cell)) c.in-Some.is c.self.invariant.counts
    ∙ ap (λ s. counts_of s) (c.self.view_is ∙ e) ∙ counts-stage p n c.args.steps sound node

pub returns-in-None : goal.returns-in-None
returns-in-None c p n sound node e = c.counts.ensures p n sound node (c.self.view_is ∙ e)
