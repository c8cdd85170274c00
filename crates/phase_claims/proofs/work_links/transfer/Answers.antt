use Rattle.std.specs.Option.{IfSome, IsSomeAnd}
use Rattle.std.proofs.Common.{◌≡◌, ◌+◌, [], ◌∷◌, ap, refl, sym, ◌∙◌, subst}
use Rattle.atomic_table.specs.Table.{rest, turned}
use Rattle.cell_stages.specs.Contents.{away, batch_of, room_of}
use Rattle.cell_stages.specs.declared.mail.Mail.TheVariants.{Away}
use Rattle.dta_model.specs.Lent.{plan_of}
use Rattle.dta_model.specs.Plans.{outs}
use Rattle.node_transfer.specs.Exchange.{IsKept, is_room}
use Rattle.node_transfer.proofs.OfMail.Lending.{all-collected, all-lent, is-away, is-emptied, is-filled, is-told, link_of, past}
use Rattle.node_transfer.proofs.OfMail.Parts.{outs-after, outs-before}
use Rattle.node_transfer.proofs.OfMail.Rooms.{room-kept, room-told}
use Rattle.phase_claims.specs.PlacesHeld.{mail_place}
use Rattle.phase_claims.specs.declared.part.Part.TheVariants.{Mail, Out}
use Rattle.phase_claims.proofs.PlacesRound.{first_mail, is_there, mail_first, mail_is, mail_round, stays}
use Rattle.phase_claims.proofs.PlacesTurn.{at_end}
use Rattle.phase_claims.proofs.work_links.transfer.Goals as goal

pub tell_room-requires-clause-held : goal.tell_room-requires-clause-held
tell_room-requires-clause-held g c =
    let p = plan_of c.args.loading.now in
    let t = c.args.step in
    mail_first (outs-before p c.args.node.0 t away) (room_of p t) (room_of p t) c.outs-outs.result.now c.outs-outs.ensures c.node_count-nodes.result c.node_count-nodes.ensures.count
    ((c.args.node.0, Out) ∷ []) c.loop-place.place c.loop-place-test.true c.loop-place.seat.me.1 c.loop-place.invariant.2

pub tell_room-requires-clause-there : goal.tell_room-requires-clause-there
tell_room-requires-clause-there g c =
    let p = plan_of c.args.loading.now in
    let t = c.args.step in
    is_there _ Away
    (is-away (outs-before p c.args.node.0 t away) (room_of p t) c.outs-outs.result.now c.outs-outs.ensures c.loop-place.place c.loop-place-test.true c.loop-place.cell c.loop-place.invariant.1)

pub tell_room-requires-clause-room : goal.tell_room-requires-clause-room
tell_room-requires-clause-room g c m got =
    let p = plan_of c.args.loading.now in
    let t = c.args.step in
    ap is_room
    (sym (mail_is (outs-before p c.args.node.0 t away) (room_of p t) (room_of p t) c.outs-outs.result.now c.outs-outs.ensures c.node_count-nodes.result c.node_count-nodes.ensures.count
    ((c.args.node.0, Out) ∷ []) c.loop-place.place c.loop-place-test.true c.loop-place.seat.me.1 m c.loop-place.invariant.2 got))
    ∙ room-told p t (link_of c.outs-outs.result.now c.loop-place.place)

pub loop-place-preserved : goal.loop-place-preserved
loop-place-preserved g c =
    let p = plan_of c.args.loading.now in
    let t = c.args.step in
    let ls = c.outs-outs.result.now in
    let are = c.outs-outs.ensures in
    let j = c.loop-place.place in
    let within = c.loop-place-test.true in
    let told = room_of p t (link_of ls j) in
    let made = outs-before p c.args.node.0 t away in
    let (same, cells, held) = c.loop-place.invariant in
    let first = first_mail made (room_of p t) (room_of p t) ls are c.node_count-nodes.result c.node_count-nodes.ensures.count ((c.args.node.0, Out) ∷ []) j within c.loop-place.seat.me.1 held in (
      stays c.args.seat.now c.loop-place.seat c.tell_room.new.seat same c.tell_room.ensures.seat,
      is-filled made (room_of p t) ls are j within told c.loop-place.cell c.tell_room.new.cell cells refl (c.tell_room.ensures.cell told first),
      mail_round made (room_of p t) (room_of p t) ls are c.node_count-nodes.result c.node_count-nodes.ensures.count ((c.args.node.0, Out) ∷ []) j within
          told c.loop-place.seat.me.1 c.tell_room.new.seat.me.1 held refl (c.tell_room.ensures.held ∙ ap turned first),
    )

pub transfer-requires : goal.transfer-requires
transfer-requires g c =
    let p = plan_of c.args.loading.now in
    let t = c.args.step in (
      p,
      c.args.node.0,
      c.requires.step,
      all-lent (outs-before p c.args.node.0 t away) (room_of p t) c.outs-outs.result.now c.outs-outs.ensures c.loop-place.place c.loop-place-test.false c.loop-place.cell c.loop-place.invariant.1,
    )

pub loop-place-2-init : goal.loop-place-2-init
loop-place-2-init g c =
    let p = plan_of c.args.loading.now in
    let n = c.args.node.0 in
    let t = c.args.step in
    let ls = c.outs-outs.result.now in
    let j = c.loop-place.place in
    let made = outs-before p n t away in
    let (same, cells, held) = c.loop-place.invariant in (
      stays c.args.seat.now c.loop-place.seat c.turn.new.self same (record { table = c.turn.ensures.0; id = c.turn.ensures.1; view = ap (λ me. me.0) c.turn.ensures.2 }),
      c.transfer.ensures p n c.requires.step (all-lent made (room_of p t) ls c.outs-outs.ensures j c.loop-place-test.false c.loop-place.cell cells),
      ap (λ me. me.1) c.turn.ensures.2
          ∙ ap turned (held ∙ at_end (mail_place p (room_of p t)) (mail_place p (room_of p t)) ((n, Out) ∷ []) (outs p n) j (past made (room_of p t) ls c.outs-outs.ensures j c.loop-place-test.false)),
    )

pub send_batch-requires-clause-held : goal.send_batch-requires-clause-held
send_batch-requires-clause-held g c =
    let p = plan_of c.args.loading.now in
    let t = c.args.step in
    mail_first (outs-after p c.args.node.0 t away) (room_of p t) (batch_of p t) c.outs-outs.result.now c.outs-outs.ensures c.node_count-nodes.result c.node_count-nodes.ensures.count
    ((c.args.node.0, Out) ∷ []) c.loop-place-2.place c.loop-place-2-test.true c.loop-place-2.seat.me.1 c.loop-place-2.invariant.2

pub send_batch-requires-clause-kept : goal.send_batch-requires-clause-kept
send_batch-requires-clause-kept g c m got =
    let p = plan_of c.args.loading.now in
    let t = c.args.step in
    let ls = c.outs-outs.result.now in
    let are = c.outs-outs.ensures in
    let j = c.loop-place-2.place in
    let within = c.loop-place-2-test.true in
    let b = link_of ls j in
    let made = outs-after p c.args.node.0 t away in
    let (same, cells, held) = c.loop-place-2.invariant in
    subst (λ o. IsSomeAnd o (λ there. IsKept there m)) (sym (is-told made (batch_of p t) ls are j within c.loop-place-2.cell cells))
    (subst (λ x. IsKept (batch_of p t b) x)
    (mail_is made (room_of p t) (batch_of p t) ls are c.node_count-nodes.result c.node_count-nodes.ensures.count ((c.args.node.0, Out) ∷ []) j within c.loop-place-2.seat.me.1 m held got)
    (room-kept p t b))

pub loop-place-2-preserved : goal.loop-place-2-preserved
loop-place-2-preserved g c =
    let p = plan_of c.args.loading.now in
    let t = c.args.step in
    let ls = c.outs-outs.result.now in
    let are = c.outs-outs.ensures in
    let j = c.loop-place-2.place in
    let within = c.loop-place-2-test.true in
    let b = link_of ls j in
    let made = outs-after p c.args.node.0 t away in
    let (same, cells, held) = c.loop-place-2.invariant in
    let sent = subst (λ o. IfSome o (λ there. c.send_batch.new.seat.me.1 ≡ turned ((c.node_count-nodes.result + b, Mail there) ∷ rest c.loop-place-2.seat.me.1))) (is-told made (batch_of p t) ls are j within c.loop-place-2.cell cells) c.send_batch.ensures.held in (
      stays c.args.seat.now c.loop-place-2.seat c.send_batch.new.seat same c.send_batch.ensures.seat,
      is-emptied made (batch_of p t) ls are j within c.loop-place-2.cell c.send_batch.new.cell cells c.send_batch.ensures.cell,
      mail_round made (room_of p t) (batch_of p t) ls are c.node_count-nodes.result c.node_count-nodes.ensures.count ((c.args.node.0, Out) ∷ []) j within
          (batch_of p t b) c.loop-place-2.seat.me.1 c.send_batch.new.seat.me.1 held refl sent,
    )

pub returns-clause-cell : goal.returns-clause-cell
returns-clause-cell g c =
    let p = plan_of c.args.loading.now in
    let t = c.args.step in
    all-collected (outs-after p c.args.node.0 t away) (batch_of p t) c.outs-outs.result.now c.outs-outs.ensures c.loop-place-2.place c.loop-place-2-test.false c.loop-place-2.cell c.loop-place-2.invariant.1
