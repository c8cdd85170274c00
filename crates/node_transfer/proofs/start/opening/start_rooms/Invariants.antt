use Rattle.net_core.specs.Network.{numbers_below}
use Rattle.std.proofs.Common.{◌≡◌, map}
use Rattle.dta_model.specs.Lent.{plan_of}
use Rattle.node_transfer.proofs.OfStart.Starts.{start_room}
use Rattle.node_transfer.proofs.start.opening.start_rooms.Given as goal

abbrev pub invariant-loop-l : goal.invariant-loop-l
invariant-loop-l l = l.mail.items ≡ map (start_room (plan_of l.loading)) (numbers_below l.l)
