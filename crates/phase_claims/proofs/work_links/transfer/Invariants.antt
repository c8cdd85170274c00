use Rattle.std.proofs.Common.{◌≡◌, [], ◌∷◌, take}
use Rattle.dta_model.specs.Lent.{plan_of}
use Rattle.dta_model.specs.Plans.{outs}
use Rattle.cell_stages.specs.Contents.{away, batch_of, cell_after, cell_before, room_of}
use Rattle.node_transfer.proofs.OfMail.Exchanges.{replaced}
use Rattle.phase_claims.specs.PlacesHeld.{IsSameSeat, mail_place}
use Rattle.phase_claims.specs.declared.part.Part.TheVariants.{Out}
use Rattle.phase_claims.proofs.PlacesTurn.{midway}
use Rattle.phase_claims.proofs.work_links.transfer.Given as goal

abbrev pub invariant-loop-place : goal.invariant-loop-place
invariant-loop-place g l =
    let p = plan_of l.loading in
    let n = l.fn.node.0 in
    let told = mail_place p (room_of p l.step) in
    IsSameSeat l.fn.seat l.seat
    × (l.cell ≡ cell_before p n l.step away (replaced (take l.place (outs p n)) (room_of p l.step) away))
    × (l.seat.me.1 ≡ midway told told ((n, Out) ∷ []) (outs p n) l.place)

abbrev pub invariant-loop-place-2 : goal.invariant-loop-place-2
invariant-loop-place-2 g l =
    let p = plan_of l.loading in
    let n = l.fn.node.0 in
    IsSameSeat l.fn.seat l.seat
    × (l.cell ≡ cell_after p n l.step away (replaced (take l.place (outs p n)) away (batch_of p l.step)))
    × (l.seat.me.1 ≡ midway (mail_place p (room_of p l.step)) (mail_place p (batch_of p l.step)) ((n, Out) ∷ []) (outs p n) l.place)
