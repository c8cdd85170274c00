use Rattle.net_core.specs.Network.{numbers_below}
use Rattle.std.proofs.Common.{◌∙◌, ap, length}
use Rattle.dta_model.specs.Lent.{plan_of}
use Rattle.dta_model.specs.Plans.{vehicle_count}
use Rattle.node_transfer.specs.Inside.StartCells.{taken_cells}
use Rattle.node_transfer.proofs.OfStart.Opened.{all-cells-start, lines_length}
use Rattle.node_transfer.proofs.start.opening.opening.Goals as goal

pub start_cells-requires-clause-lines : goal.start_cells-requires-clause-lines
start_cells-requires-clause-lines c =
    let p = plan_of c.args.loading.now in
    ap (λ ls. length ls) (c.deref_mut.ensures.value ∙ c.in_ok-lines.ensures) ∙ lines_length p (vehicle_count p)

pub returns : goal.returns
returns c =
    let p = plan_of c.args.loading.now in
    record {
      cells = c.of.ensures ∙ c.in_ok-cells.ensures ∙ ap (λ ls. taken_cells p ls (numbers_below (length p.net.nodes))) (c.deref_mut.ensures.value ∙ c.in_ok-lines.ensures) ∙ all-cells-start p;
      mail = c.of-2.ensures ∙ c.in_ok-mail.ensures;
      loaded = c.of-3.ensures ∙ c.in_ok-loaded.ensures;
    }
