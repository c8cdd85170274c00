use Rattle.std.proofs.Common.{◌≡◌, [], ◌∷◌, suc, take}
use Rattle.dta_model.specs.Lent.{plan_of}
use Rattle.dta_model.specs.Plans.{ins}
use Rattle.cell_stages.specs.Contents.{batch_of, room_of}
use Rattle.node_transfer.proofs.OfMail.Gathers.{gathering}
use Rattle.phase_claims.specs.PlacesHeld.{IsSameSeat, mail_place}
use Rattle.phase_claims.specs.declared.part.Part.TheVariants.{Out}
use Rattle.phase_claims.proofs.PlacesTurn.{midway}
use Rattle.phase_claims.proofs.work_links.gather.Given as goal

abbrev pub invariant-loop-place : goal.invariant-loop-place
invariant-loop-place g l =
    let p = plan_of l.loading in
    let n = l.fn.node.0 in
    IsSameSeat l.fn.seat l.seat
    × (l.cell ≡ gathering p n l.step (take l.place (ins p n)))
    × (l.seat.me.1 ≡ midway (mail_place p (batch_of p l.step)) (mail_place p (room_of p (suc l.step))) ((n, Out) ∷ []) (ins p n) l.place)
