use Rattle.std.proofs.Common.{◌≡◌, take}
use Rattle.dta_model.specs.Lent.{plan_of}
use Rattle.dta_model.specs.Plans.{link_numbers}
use Rattle.node_transfer.specs.Inside.StartCells.{turns_at_start}
use Rattle.node_transfer.proofs.start.links.start_turns.Given as goal

abbrev pub invariant-loop-i : goal.invariant-loop-i
invariant-loop-i l = l.list.items ≡ turns_at_start (plan_of l.loading) l.link.0 (link_numbers (take l.i l.outs))
