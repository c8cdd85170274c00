use Rattle.std.proofs.Common.{◌∙◌}
use Rattle.phase_claims.proofs.noted_cell.NotedCell.on_link.Goals as goal

pub returns : goal.returns
returns c p n t l same here = c.on_link.ensures.count p n t l (c.self.view_is ∙ same) here
