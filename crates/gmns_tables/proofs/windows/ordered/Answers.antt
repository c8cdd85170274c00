use Rattle.std.proofs.Common.{arith, rules}
use Rattle.gmns_tables.proofs.StepsFacts.{are_windows}
use Rattle.gmns_tables.proofs.windows.ordered.Goals as goal

pub returns-then-are_in_order-clause-sound : goal.returns-then-are_in_order-clause-sound
returns-then-are_in_order-clause-sound c = λ kind range.
    rw c.of.ensures (are_windows kind c.args.windows.items (omega (arith, c.args.windows.ok.0)) (search (rules, c.if-are_in_order.true)) range)
