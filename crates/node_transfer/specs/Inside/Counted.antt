-- How many riders stand in the lines of a cell.
use Rattle.std.specs.List.{sum_by}
use Rattle.std.specs.Prelude.{List, length, min}
use Rattle.dta_model.specs.Plans.{ins, outs}
use Rattle.dta_model.specs.Riders.{RiderState}
use Rattle.node_transfer.specs.Inside.Lengths.{line_length, waiting_length}
use Rattle.cell_stages.specs.declared.in_link.InLink.{InLink}
use Rattle.cell_stages.specs.declared.out_link.OutLink.{OutLink}
use Rattle.node_transfer.specs.declared.counts.TheConstants.{MOST_COUNT}
use Rattle.node_transfer.specs.declared.cell.CellCounts.{CellCounts}

-- the numbers of riders in the lines of a cell; a sum that no number holds is the greatest one
abbrev pub counted : List InLink → List OutLink → List RiderState → CellCounts
counted ins outs arrived = record {
  waiting = min (sum_by waiting_length outs) MOST_COUNT;
  running = min (sum_by line_length ins) MOST_COUNT;
  arrived = length arrived;
}
