use Rattle.std.proofs.Common.{◌≡◌, suc, take}
use Rattle.cell_stages.specs.Contents.{room_of}
use Rattle.dta_model.specs.Lent.{plan_of}
use Rattle.dta_model.specs.Plans.{ins as ins_of}
use Rattle.node_transfer.specs.Exchange.{ArePut}
use Rattle.node_transfer.proofs.OfMail.Gathers.{gathering}
use Rattle.node_transfer.proofs.exchange.gather.Given as goal

abbrev pub invariant-loop-place : goal.invariant-loop-place
invariant-loop-place l =
    let p = plan_of l.loading in
    let done = take l.place (ins_of p l.fn.node.0) in
    (l.cell ≡ gathering p l.fn.node.0 l.step done) × ArePut (room_of p (suc l.step)) done l.initial.mail l.mail
