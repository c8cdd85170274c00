use Rattle.std.specs.Option.{IfSome, IsSomeAnd}
use Rattle.std.proofs.Common.{◌≡◌, ◌+◌, ◌≤◌, [], ◌∷◌, length, refl, suc, sym, ◌∙◌, subst}
use Rattle.atomic_table.specs.Table.{rest, turned}
use Rattle.cell_stages.specs.Contents.{away, batch_of, room_of}
use Rattle.dta_model.specs.Lent.{plan_of}
use Rattle.link_queues.specs.declared.line.TheConstants.{MOST_RIDERS}
use Rattle.node_transfer.specs.Gathered.{mail_line, room_told}
use Rattle.node_transfer.proofs.OfMail.Gathers.{all-gathered, in_old, link-fits, link-there, mail-told, none-gathered, one-gathered}
use Rattle.node_transfer.proofs.OfMail.Lending.{at-place, link_of, past}
use Rattle.node_transfer.proofs.OfMail.Parts.{ins-after}
use Rattle.phase_claims.specs.declared.part.Part.TheVariants.{Mail, Out}
use Rattle.phase_claims.proofs.PlacesRound.{first_mail, mail_first, mail_is, mail_round, stays}
use Rattle.phase_claims.proofs.work_links.gather.Goals as goal

pub loop-place-init : goal.loop-place-init
loop-place-init g c =
    let p = plan_of c.args.loading.now in
    (record { table = refl; id = refl; view = refl }, c.requires.cell ∙ none-gathered p c.args.node.0 c.args.step, c.requires.held)

pub gather_link-requires-clause-held : goal.gather_link-requires-clause-held
gather_link-requires-clause-held g c =
    let p = plan_of c.args.loading.now in
    let t = c.args.step in
    mail_first (ins-after p c.args.node.0 t away) (batch_of p t) (room_of p (suc t)) c.ins-ins.result.now c.ins-ins.ensures c.node_count-nodes.result c.node_count-nodes.ensures.count
    ((c.args.node.0, Out) ∷ []) c.loop-place.place c.loop-place-test.true c.loop-place.seat.me.1 c.loop-place.invariant.2

pub gather_link-requires-clause-fits : goal.gather_link-requires-clause-fits
gather_link-requires-clause-fits g c m got =
    let p = plan_of c.args.loading.now in
    let n = c.args.node.0 in
    let t = c.args.step in
    let ls = c.ins-ins.result.now in
    let are = c.ins-ins.ensures in
    let j = c.loop-place.place in
    let within = c.loop-place-test.true in
    let b = link_of ls j in
    let made = ins-after p n t away in
    let here = at-place made (batch_of p t) ls are j within in
    let (same, cells, held) = c.loop-place.invariant in
    let is = mail_is made (batch_of p t) (room_of p (suc t)) ls are c.node_count-nodes.result c.node_count-nodes.ensures.count ((n, Out) ∷ []) j within c.loop-place.seat.me.1 m held got in
    subst (λ o. IsSomeAnd o (λ link. length link.line + length (mail_line m) ≤ MOST_RIDERS)) (sym (link-there p c.requires.step.sound n t j b here c.loop-place.cell cells))
    (subst (λ x. length (in_old p n t b).line + length (mail_line x) ≤ MOST_RIDERS) is (link-fits p c.requires.step.sound n t j b here))

pub loop-place-preserved : goal.loop-place-preserved
loop-place-preserved g c =
    let p = plan_of c.args.loading.now in
    let sound = c.requires.step.sound in
    let n = c.args.node.0 in
    let t = c.args.step in
    let ls = c.ins-ins.result.now in
    let are = c.ins-ins.ensures in
    let j = c.loop-place.place in
    let within = c.loop-place-test.true in
    let b = link_of ls j in
    let made = ins-after p n t away in
    let here = at-place made (batch_of p t) ls are j within in
    let (same, cells, held) = c.loop-place.invariant in
    let N = c.node_count-nodes.result in
    let l = c.loop-place.seat.me.1 in
    let l' = c.gather_link.new.seat.me.1 in
    let first = first_mail made (batch_of p t) (room_of p (suc t)) ls are N c.node_count-nodes.ensures.count ((n, Out) ∷ []) j within l held in
    let told = subst (λ o. IfSome o (λ link. l' ≡ turned ((N + b, Mail (room_told t (batch_of p t b) link)) ∷ rest l))) (link-there p sound n t j b here c.loop-place.cell cells)
    (c.gather_link.ensures.held (batch_of p t b) first) in (
      stays c.args.seat.now c.loop-place.seat c.gather_link.new.seat same c.gather_link.ensures.seat,
      one-gathered p sound n t j b here c.loop-place.cell c.gather_link.new.cell cells (c.gather_link.ensures.cell (batch_of p t b) first),
      mail_round made (batch_of p t) (room_of p (suc t)) ls are N c.node_count-nodes.ensures.count ((n, Out) ∷ []) j within
          (room_told t (batch_of p t b) (in_old p n t b)) l l' held (mail-told p sound n t j b here) told,
    )

pub returns-clause-cell : goal.returns-clause-cell
returns-clause-cell g c =
    let p = plan_of c.args.loading.now in
    let n = c.args.node.0 in
    all-gathered p c.requires.step.sound n c.args.step c.loop-place.place c.loop-place.cell
    (past (ins-after p n c.args.step away) (batch_of p c.args.step) c.ins-ins.result.now c.ins-ins.ensures c.loop-place.place c.loop-place-test.false) c.loop-place.invariant.1
