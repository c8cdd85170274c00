use Rattle.std.proofs.Common.{◌≡◌, ◌⊎◌, ◌≤◌, [], ◌∷◌}
use Rattle.cell_stages.specs.Contents.{away, batch_of}
use Rattle.claim_core.specs.Sums.{times}
use Rattle.dta_model.specs.Lent.{plan_of}
use Rattle.dta_model.specs.Plans.{outs}
use Rattle.node_transfer.specs.Halves.{leaving_cell}
use Rattle.phase_claims.specs.PlacesHeld.{mail_place}
use Rattle.phase_claims.specs.Told.{HasOnlyTold, KeepsRooms}
use Rattle.phase_claims.specs.declared.part.Part.TheVariants.{Cell}
use Rattle.phase_claims.proofs.PlacesTurn.{midway}
use Rattle.phase_claims.proofs.Told.{SentYet}
use Rattle.phase_claims.proofs.work_told.tell_all.Given as goal

abbrev pub invariant-loop-place : goal.invariant-loop-place
invariant-loop-place l =
    let p = plan_of l.loading in
    let n = l.half.node.0 in
    let t = l.half.step in
    HasOnlyTold l.fn.seat l.seat
    × (KeepsRooms p n t ⊎ (1 ≤ times n l.seat.me.0.told))
    × SentYet p n t l.place l.seat.me.0.told
    × (l.seat.me.1 ≡ midway (mail_place p (batch_of p t)) (mail_place p (batch_of p t)) ((n, Cell (leaving_cell p l.half away)) ∷ []) (outs p n) l.place)
