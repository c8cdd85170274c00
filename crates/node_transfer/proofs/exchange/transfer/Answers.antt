use Rattle.std.specs.Option.{IsSome, IsSomeAnd}
use Rattle.std.specs.Prelude.{slice_index_or}
use Rattle.std.proofs.Common.{ap, refl, sym, ◌∙◌, subst, take}
use Rattle.cell_stages.specs.Contents.{away, batch_of, room_of}
use Rattle.dta_model.specs.Lent.{plan_of}
use Rattle.dta_model.specs.Plans.{outs}
use Rattle.node_transfer.specs.Exchange.{IsKept, is_room}
use Rattle.node_transfer.proofs.OfMail.Lending.{all-collected, all-lent, at-place, is-away, is-emptied, is-filled, is-told, link_of, mail-here, mail-inside, one-mail}
use Rattle.node_transfer.proofs.OfMail.Parts.{outs-after, outs-before}
use Rattle.node_transfer.proofs.OfMail.Puts.{none-put, put-next, unchanged}
use Rattle.node_transfer.proofs.OfMail.Rooms.{room-kept, room-told}
use Rattle.node_transfer.proofs.exchange.transfer.Goals as goal

pub bounds-mail-outs : goal.bounds-mail-outs
bounds-mail-outs c =
    let p = plan_of c.args.loading.now in
    let ms = c.args.mail.now in
    mail-inside (outs-before p c.args.node.0 c.args.step away) (room_of p c.args.step) c.outs-outs.result.now c.outs-outs.ensures c.loop-place.place
    c.loop-place-test.true ms ms c.requires.count (unchanged (take c.loop-place.place (outs p c.args.node.0)) ms)

pub tell_room-requires-clause-there : goal.tell_room-requires-clause-there
tell_room-requires-clause-there c =
    let p = plan_of c.args.loading.now in
    subst IsSome
    (sym (is-away (outs-before p c.args.node.0 c.args.step away) (room_of p c.args.step) c.outs-outs.result.now c.outs-outs.ensures c.loop-place.place
    c.loop-place-test.true c.loop-place.cell c.loop-place.invariant)) refl

pub tell_room-requires-clause-room : goal.tell_room-requires-clause-room
tell_room-requires-clause-room c =
    let p = plan_of c.args.loading.now in
    let t = c.args.step in
    let ms = c.args.mail.now in
    ap is_room
    (mail-here (outs-before p c.args.node.0 t away) (room_of p t) c.outs-outs.result.now c.outs-outs.ensures c.loop-place.place
    c.loop-place-test.true c.index-mail-outs.result ms ms c.requires.count (unchanged (take c.loop-place.place (outs p c.args.node.0)) ms) c.requires.mail)
    ∙ room-told p t (link_of c.outs-outs.result.now c.loop-place.place)

pub loop-place-preserved : goal.loop-place-preserved
loop-place-preserved c =
    let p = plan_of c.args.loading.now in
    let t = c.args.step in
    let ls = c.outs-outs.result.now in
    let ms = c.args.mail.now in
    let made = outs-before p c.args.node.0 t away in
    is-filled made (room_of p t) ls c.outs-outs.ensures c.loop-place.place c.loop-place-test.true
    (slice_index_or ms (link_of ls c.loop-place.place) c.index-mail-outs.result) c.loop-place.cell c.tell_room.new.self c.loop-place.invariant
    (mail-here made (room_of p t) ls c.outs-outs.ensures c.loop-place.place c.loop-place-test.true c.index-mail-outs.result ms ms c.requires.count
    (unchanged (take c.loop-place.place (outs p c.args.node.0)) ms) c.requires.mail)
    c.tell_room.ensures

pub transfer-requires : goal.transfer-requires
transfer-requires c =
    let p = plan_of c.args.loading.now in (
      p,
      c.args.node.0,
      c.requires.step,
      all-lent (outs-before p c.args.node.0 c.args.step away) (room_of p c.args.step) c.outs-outs.result.now c.outs-outs.ensures c.loop-place.place
          c.loop-place-test.false c.loop-place.cell c.loop-place.invariant,
    )

pub loop-place-2-init : goal.loop-place-2-init
loop-place-2-init c =
    let p = plan_of c.args.loading.now in (
      c.transfer.ensures p c.args.node.0 c.requires.step
          (all-lent (outs-before p c.args.node.0 c.args.step away) (room_of p c.args.step) c.outs-outs.result.now c.outs-outs.ensures c.loop-place.place
          c.loop-place-test.false c.loop-place.cell c.loop-place.invariant),
      none-put (batch_of p c.args.step) c.args.mail.now,
    )

pub bounds-mail-outs-in-loop-place-2 : goal.bounds-mail-outs-in-loop-place-2
bounds-mail-outs-in-loop-place-2 c =
    let p = plan_of c.args.loading.now in
    mail-inside (outs-after p c.args.node.0 c.args.step away) (batch_of p c.args.step) c.outs-outs.result.now c.outs-outs.ensures c.loop-place-2.place
    c.loop-place-2-test.true c.args.mail.now c.loop-place-2.mail c.requires.count c.loop-place-2.invariant.1.others

pub send_batch-requires : goal.send_batch-requires
send_batch-requires c =
    let p = plan_of c.args.loading.now in
    let n = c.args.node.0 in
    let t = c.args.step in
    let ls = c.outs-outs.result.now in
    let j = c.loop-place-2.place in
    let b = link_of ls j in
    let within = c.loop-place-2-test.true in
    let m = slice_index_or c.loop-place-2.mail b c.index-mail-outs-in-loop-place-2.result in
    subst (λ o. IsSomeAnd o (λ there. IsKept there m)) (sym (is-told (outs-after p n t away) (batch_of p t) ls c.outs-outs.ensures j within c.loop-place-2.cell c.loop-place-2.invariant.0))
    (subst (λ x. IsKept (batch_of p t b) x)
    (sym (mail-here (outs-before p n t away) (room_of p t) ls c.outs-outs.ensures j within c.index-mail-outs-in-loop-place-2.result c.args.mail.now c.loop-place-2.mail c.requires.count
    c.loop-place-2.invariant.1.others c.requires.mail))
    (room-kept p t b))

pub loop-place-2-preserved : goal.loop-place-2-preserved
loop-place-2-preserved c =
    let p = plan_of c.args.loading.now in
    let n = c.args.node.0 in
    let t = c.args.step in
    let ls = c.outs-outs.result.now in
    let j = c.loop-place-2.place in
    let within = c.loop-place-2-test.true in
    let made = outs-after p n t away in
    let (cells, puts) = c.loop-place-2.invariant in (
      is-emptied made (batch_of p t) ls c.outs-outs.ensures j within c.loop-place-2.cell c.send_batch.new.self cells c.send_batch.ensures.away,
      put-next (batch_of p t) (outs p n) j (link_of ls j) c.send_batch.new.mail c.args.mail.now c.loop-place-2.mail (at-place made (batch_of p t) ls c.outs-outs.ensures j within)
          (mail-inside made (batch_of p t) ls c.outs-outs.ensures j within c.args.mail.now c.loop-place-2.mail c.requires.count puts.others)
          (one-mail c.send_batch.new.mail (batch_of p t (link_of ls j))
          (sym c.send_batch.ensures.mail ∙ is-told made (batch_of p t) ls c.outs-outs.ensures j within c.loop-place-2.cell cells))
          puts,
    )

pub returns-clause-cell : goal.returns-clause-cell
returns-clause-cell c =
    let p = plan_of c.args.loading.now in
    all-collected (outs-after p c.args.node.0 c.args.step away) (batch_of p c.args.step) c.outs-outs.result.now c.outs-outs.ensures c.loop-place-2.place
    c.loop-place-2-test.false c.loop-place-2.cell c.loop-place-2.invariant.0
