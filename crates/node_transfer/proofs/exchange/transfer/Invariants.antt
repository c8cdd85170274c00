use Rattle.std.proofs.Common.{◌≡◌, take}
use Rattle.cell_stages.specs.Contents.{away, batch_of, cell_after, cell_before, room_of}
use Rattle.dta_model.specs.Lent.{plan_of}
use Rattle.dta_model.specs.Plans.{outs as outs_of}
use Rattle.node_transfer.specs.Exchange.{ArePut}
use Rattle.node_transfer.proofs.OfMail.Exchanges.{replaced}
use Rattle.node_transfer.proofs.exchange.transfer.Given as goal

abbrev pub invariant-loop-place : goal.invariant-loop-place
invariant-loop-place l =
    let p = plan_of l.loading in
    l.cell ≡ cell_before p l.fn.node.0 l.step away (replaced (take l.place (outs_of p l.fn.node.0)) (room_of p l.step) away)

abbrev pub invariant-loop-place-2 : goal.invariant-loop-place-2
invariant-loop-place-2 l =
    let p = plan_of l.loading in
    let done = take l.place (outs_of p l.fn.node.0) in
    (l.cell ≡ cell_after p l.fn.node.0 l.step away (replaced done away (batch_of p l.step)))
    × ArePut (batch_of p l.step) done l.initial.mail l.mail
