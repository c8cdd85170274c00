-- What contracts see of a cell.
use Rattle.std.specs.Prelude.{List}
use Rattle.dta_model.specs.Riders.{RiderState}
use Rattle.cell_stages.specs.declared.in_link.InLink.{InLink}
use Rattle.cell_stages.specs.declared.out_link.OutLink.{OutLink}

-- a cell has the in-links and the out-links of its node, and those who arrived there
pub record CellState : Type 0 where
  pub ins : List InLink
  pub outs : List OutLink
  pub arrived : List RiderState
