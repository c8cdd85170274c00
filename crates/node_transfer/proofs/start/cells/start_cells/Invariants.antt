use Rattle.net_core.specs.Network.{numbers_below}
use Rattle.std.specs.List.{range_with_len}
use Rattle.std.proofs.Common.{◌≡◌, ◌-◌, ◌++◌, length}
use Rattle.dta_model.specs.Lent.{plan_of}
use Rattle.node_transfer.specs.Inside.StartCells.{taken_cells}
use Rattle.node_transfer.proofs.start.cells.start_cells.Given as goal

abbrev pub invariant-loop-n : goal.invariant-loop-n
invariant-loop-n l =
    (l.cells.items ++ taken_cells (plan_of l.loading) l.lines (range_with_len l.n (length l.loading.net.now.nodes - l.n))
    ≡ taken_cells (plan_of l.loading) l.initial.lines (numbers_below (length l.loading.net.now.nodes)))
    × (length l.lines ≡ length l.initial.lines)
