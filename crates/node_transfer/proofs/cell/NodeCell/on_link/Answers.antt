use Rattle.node_transfer.proofs.OfStep.Totals.{line-count}
use Rattle.node_transfer.proofs.cell.NodeCell.on_link.Goals as goal

pub returns-clause-count : goal.returns-clause-count
returns-clause-count c p n t l same here = line-count p n t c.args.place l c.line_length.result c.args.self.now c.line_length.ensures same here
