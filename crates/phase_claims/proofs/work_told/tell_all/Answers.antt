use Rattle.std.proofs.Common.{◌≡◌, ◌≢◌, ◌⊎◌, ◌<◌, ◌≤◌, ⊎_elim, inl, inr, ℕ, List, [], ◌∷◌, length, ap, refl, sym, ◌∙◌, subst, arith}
use Rattle.std.proofs.lemmas.Option.{slice_get_within}
use Rattle.atomic_table.specs.Table.{Me, turned}
use Rattle.cell_stages.specs.Contents.{away, batch_of}
use Rattle.cell_stages.specs.Stages.{batch_mail}
use Rattle.claim_core.specs.Sums.{times}
use Rattle.dta_model.specs.Lent.{plan_of}
use Rattle.dta_model.specs.Plans.{link_at, outs}
use Rattle.dta_model.specs.Units.{node_count, step_of}
use Rattle.dta_model.specs.declared.plan.Plan.{Plan}
use Rattle.node_transfer.specs.Halves.{leaving_cell, links_by, mail_after}
use Rattle.node_transfer.proofs.OfMail.Finished.{to-below}
use Rattle.node_transfer.proofs.OfMail.Lending.{at-place, link_of, past}
use Rattle.node_transfer.proofs.OfMail.ListPlaces.{link-here}
use Rattle.node_transfer.proofs.OfMail.Parts.{outs-after, outs-inside}
use Rattle.node_transfer.proofs.OfStart.Starts.{got_link}
use Rattle.node_transfer.proofs.OfStep.MailLines.{batch-line}
use Rattle.phase_claims.specs.PlacesHeld.{mail_place, mail_places}
use Rattle.phase_claims.specs.Told.{KeepsRooms}
use Rattle.phase_claims.specs.declared.part.Part.{Part}
use Rattle.phase_claims.specs.declared.part.Part.TheVariants.{Cell}
use Rattle.phase_claims.specs.declared.view.View.{View}
use Rattle.phase_claims.proofs.PlacesRound.{first_mail, mail_first, mail_round}
use Rattle.phase_claims.proofs.PlacesTurn.{at_end}
use Rattle.phase_claims.proofs.Told.{all_sent, none_sent, sent_next, told_so}
use Rattle.phase_claims.proofs.work_told.tell_all.Goals as goal

pub tell_own-requires-clause-words : goal.tell_own-requires-clause-words
tell_own-requires-clause-words c = let n = c.requires.step.node in omega (arith, c.requires.words, n)

pub tell_own-requires-clause-node : goal.tell_own-requires-clause-node
tell_own-requires-clause-node c = subst (λ (p : Plan). c.args.half.node.0 < node_count p) c.requires.plan c.requires.step.node

pub tell_own-requires-clause-now : goal.tell_own-requires-clause-now
tell_own-requires-clause-now c = c.requires.now ∙ ap (λ (p : Plan). step_of (node_count p) c.args.seat.now.me.0.at) c.requires.plan

pub loop-place-init : goal.loop-place-init
loop-place-init c =
    let p = plan_of c.args.loading.now in
    let n = c.args.half.node.0 in
    let t = c.args.half.step in
    let same = ap (λ (m : Me Part View). m.0) c.turn.ensures.2 in (
      record {
        table = c.turn.ensures.0 ∙ c.tell_own.ensures.seat.table;
        view = same ∙ c.tell_own.ensures.seat.view ∙ ap (λ (xs : List ℕ). record c.args.seat.now.me.0 { told = xs }) (sym (ap (λ (v : View). v.told) same));
        still = λ m one. subst (λ (v : View). 1 ≤ times m v.told) (sym same) (c.tell_own.ensures.seat.still m one);
      },
      subst (λ (v : View). KeepsRooms p n t ⊎ (1 ≤ times n v.told)) (sym same) c.tell_own.ensures.own,
      none_sent p n t _,
      ap (λ (m : Me Part View). m.1) c.turn.ensures.2 ∙ ap turned (c.tell_own.ensures.held ∙ c.requires.held
          ∙ ap (λ x. (n, Cell (leaving_cell p c.args.half away)) ∷ mail_places p (mail_after x p t) (links_by x p n)) c.requires.transfer),
    )

pub link-requires : goal.link-requires
link-requires c =
    let p = plan_of c.args.loading.now in
    let n = c.args.half.node.0 in
    let ls = c.outs-outs.result.now in
    let j = c.loop-place.place in
    outs-inside p n j (link_of ls j) (link-here (outs p n) ls j (record { 0 = 0 }) c.outs-outs.ensures c.loop-place-test.true)

pub tell_end-requires-clause-words : goal.tell_end-requires-clause-words
tell_end-requires-clause-words c =
    let p = plan_of c.args.loading.now in
    let b = link_of c.outs-outs.result.now c.loop-place.place in
    let to = ap (λ row. row.to.0) (got_link p.net.links b c.link.result c.link.ensures) in
    let below = to-below p c.requires.step.sound (length p.net.nodes) (omega arith) b (slice_get_within p.net.links b c.link.result c.link.ensures) in
    omega (arith, to, below, c.requires.words)

pub tell_end-requires-clause-node : goal.tell_end-requires-clause-node
tell_end-requires-clause-node c =
    let p = plan_of c.args.loading.now in
    let b = link_of c.outs-outs.result.now c.loop-place.place in
    let to = ap (λ row. row.to.0) (got_link p.net.links b c.link.result c.link.ensures) in
    let below = to-below p c.requires.step.sound (length p.net.nodes) (omega arith) b (slice_get_within p.net.links b c.link.result c.link.ensures) in
    subst (λ (v : View). c.link.result.to.0 < node_count v.scope.plan) (sym c.loop-place.invariant.0.view)
    (subst (λ (q : Plan). c.link.result.to.0 < node_count q) c.requires.plan (omega (arith, to, below)))

pub tell_end-requires-clause-weight : goal.tell_end-requires-clause-weight
tell_end-requires-clause-weight c = subst (λ (v : View). 1 ≤ v.weight) (sym c.loop-place.invariant.0.view) c.requires.weight

pub tell_end-requires-clause-now : goal.tell_end-requires-clause-now
tell_end-requires-clause-now c =
    subst (λ (v : View). c.args.half.step ≡ step_of (node_count v.scope.plan) v.at) (sym c.loop-place.invariant.0.view)
    (c.requires.now ∙ ap (λ (p : Plan). step_of (node_count p) c.args.seat.now.me.0.at) c.requires.plan)

pub tell_end-requires-clause-held : goal.tell_end-requires-clause-held
tell_end-requires-clause-held c =
    let p = plan_of c.args.loading.now in
    let n = c.args.half.node.0 in
    let t = c.args.half.step in
    mail_first (outs-after p n t away) (batch_of p t) (batch_of p t) c.outs-outs.result.now c.outs-outs.ensures c.node_count-nodes.result c.node_count-nodes.ensures.count
    ((n, Cell (leaving_cell p c.args.half away)) ∷ []) c.loop-place.place c.loop-place-test.true c.loop-place.seat.me.1 c.loop-place.invariant.3

pub loop-place-preserved : goal.loop-place-preserved
loop-place-preserved c =
    let p = plan_of c.args.loading.now in
    let n = c.args.half.node.0 in
    let t = c.args.half.step in
    let ls = c.outs-outs.result.now in
    let j = c.loop-place.place in
    let within = c.loop-place-test.true in
    let b = link_of ls j in
    let z = (n, Cell (leaving_cell p c.args.half away)) ∷ [] in
    let made = outs-after p n t away in
    let (same, own, yet, held) = c.loop-place.invariant in
    let first = first_mail made (batch_of p t) (batch_of p t) ls c.outs-outs.ensures c.node_count-nodes.result c.node_count-nodes.ensures.count z j within c.loop-place.seat.me.1 held in
    let at = at-place made (batch_of p t) ls c.outs-outs.ensures j within in
    let told' : List ℕ = c.tell_end.new.seat.me.0.told in
    let to : link_at p b ≡ c.link.result = got_link p.net.links b c.link.result c.link.ensures in
    let comes : batch_mail p b t ≢ [] → 1 ≤ times (link_at p b).to.0 told' = λ some_come.
    subst (λ row. 1 ≤ times row.to.0 told') (sym to) (c.tell_end.ensures.told (batch_of p t b) first (λ none. some_come (sym (batch-line p t b) ∙ none))) in (
      told_so c.args.seat.now c.loop-place.seat c.tell_end.new.seat same c.tell_end.ensures.seat,
      ⊎_elim (λ keeps. inl keeps) (λ one. inr (c.tell_end.ensures.seat.still n one)) own,
      sent_next p n t j b c.loop-place.seat.me.0.told told' at comes c.tell_end.ensures.seat.still yet,
      mail_round made (batch_of p t) (batch_of p t) ls c.outs-outs.ensures c.node_count-nodes.result c.node_count-nodes.ensures.count z j within
          (batch_of p t b) c.loop-place.seat.me.1 c.tell_end.new.seat.me.1 held refl (c.tell_end.ensures.held ∙ ap turned first),
    )

pub returns-clause-told : goal.returns-clause-told
returns-clause-told c =
    let p = plan_of c.args.loading.now in
    let n = c.args.half.node.0 in
    let t = c.args.half.step in
    let j = c.loop-place.place in
    all_sent p n t j c.loop-place.seat.me.0.told (past (outs-after p n t away) (batch_of p t) c.outs-outs.result.now c.outs-outs.ensures j c.loop-place-test.false) c.loop-place.invariant.1 c.loop-place.invariant.2

pub returns-clause-held : goal.returns-clause-held
returns-clause-held c =
    let p = plan_of c.args.loading.now in
    let n = c.args.half.node.0 in
    let t = c.args.half.step in
    let j = c.loop-place.place in
    c.loop-place.invariant.3
    ∙ at_end (mail_place p (batch_of p t)) (mail_place p (batch_of p t)) ((n, Cell (leaving_cell p c.args.half away)) ∷ []) (outs p n) j (past (outs-after p n t away) (batch_of p t) c.outs-outs.result.now c.outs-outs.ensures j c.loop-place-test.false)
    ∙ sym (c.requires.held ∙ ap (λ x. (n, Cell (leaving_cell p c.args.half away)) ∷ mail_places p (mail_after x p t) (links_by x p n)) c.requires.transfer)
