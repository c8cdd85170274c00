use Rattle.std.proofs.Common.{◌≡◌, length, refl, ap, sym, ◌∙◌, subst, arith, inl, inr, Some, slice_set}
use Rattle.std.specs.Prelude.{slice_get}
use Rattle.std.proofs.lemmas.Option.{slice_get_read, slice_get_within}
use Rattle.dta_model.specs.Lent.{plan_of}
use Rattle.dta_model.specs.Plans.{link_at, outs}
use Rattle.node_transfer.proofs.OfMail.Finished.{to-below}
use Rattle.node_transfer.proofs.OfMail.Lending.{link_of}
use Rattle.node_transfer.proofs.OfMail.ListPlaces.{link-here, links-count}
use Rattle.node_transfer.proofs.OfMail.Parts.{outs-inside}
use Rattle.node_transfer.proofs.OfMail.Sets.{set-got}
use Rattle.node_transfer.proofs.OfStart.Starts.{got_link}
use Rattle.serial_loader.proofs.Wakes.{none-woken, one-woken, reached-next}
use Rattle.serial_loader.proofs.phases.wake_next.Goals as goal
use Rattle.serial_loader.proofs.phases.wake_next.Goals.{then-is_batch, else-is_batch}

pub link-requires : goal.link-requires
link-requires c =
    let p = plan_of c.args.loading.now in
    let n = c.args.node.0 in
    let ls = c.outs-outs.result.now in
    let j = c.loop-place.place in
    outs-inside p n j (link_of ls j) (link-here (outs p n) ls j (record { 0 = 0 }) c.outs-outs.ensures c.loop-place-test.true)

pub bounds-mail-link : goal.bounds-mail-link
bounds-mail-link c =
    let p = plan_of c.args.loading.now in
    let n = c.args.node.0 in
    let ls = c.outs-outs.result.now in
    let j = c.loop-place.place in
    let inside = outs-inside p n j (link_of ls j) (link-here (outs p n) ls j (record { 0 = 0 }) c.outs-outs.ensures c.loop-place-test.true) in
    let count = c.requires.mail in
    omega (arith, inside, count)

pub bounds-wakes-link : goal.bounds-wakes-link
bounds-wakes-link c =
    let p = plan_of c.args.loading.now in
    let b = link_of c.outs-outs.result.now c.loop-place.place in
    let same : c.link.result ≡ link_at p b = sym (got_link p.net.links b c.link.result c.link.ensures) in
    let to = ap (λ row. row.to.0) same in
    let below = to-below p c.requires.sound (length p.net.nodes) (omega arith) b (slice_get_within p.net.links b c.link.result c.link.ensures) in
    let count = c.requires.wakes in
    let as_many = c.loop-place.invariant.0.count in
    omega (arith, to, below, count, as_many)

pub loop-place-preserved : goal.loop-place-preserved
loop-place-preserved c =
    let p = plan_of c.args.loading.now in
    let n = c.args.node.0 in
    let ls = c.outs-outs.result.now in
    let j = c.loop-place.place in
    let b = link_of ls j in
    let m = c.index-mail-link.result in
    let old = c.loop-place.wakes in
    let e = link-here (outs p n) ls j (record { 0 = 0 }) c.outs-outs.ensures c.loop-place-test.true in
    let inside = outs-inside p n j b e in
    let count = c.requires.mail in
    let got : slice_get c.args.mail.now b ≡ Some m = slice_get_read c.args.mail.now (length c.args.mail.now) b m refl (omega (arith, inside, count)) c.index-mail-link.is in
    let before = c.loop-place.invariant in
    elim c.if-is_batch.branch [
      | then-is_batch w ↦
          let to = w.link.result.to.0 in
          let same : link_at p b ≡ w.link.result = got_link p.net.links b w.link.result w.link.ensures in
          rw w.wakes-is (
            one-woken to c.args.wakes.now old before.0,
            reached-next p n j b m old (slice_set old to 0) c.args.mail.now e got (one-woken to old old (none-woken old)) before.1
                (inr (λ v at. set-got old to v 0 (subst (λ row. slice_get (slice_set old to 0) row.to.0 ≡ Some v) same at))),
          )
      | else-is_batch w ↦
          rw w.wakes-is (before.0, reached-next p n j b m old old c.args.mail.now e got (none-woken old) before.1 (inl (sym c.is_batch.ensures ∙ w.if-is_batch.false)))
    ]

pub returns-clause-reached : goal.returns-clause-reached
returns-clause-reached c = λ i l m at there.
    let ls = c.outs-outs.result.now in
    let links = outs (plan_of c.args.loading.now) c.args.node.0 in
    let inside = slice_get_within links i l at in
    let count = ap (λ xs. length xs) c.outs-outs.ensures in
    let many = links-count links in
    let past = c.loop-place-test.false in
    c.loop-place.invariant.1 i l m (omega (arith, inside, count, many, past)) at there
