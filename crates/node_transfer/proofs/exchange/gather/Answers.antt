use Rattle.std.specs.Option.{IfSome, IsSomeAnd}
use Rattle.std.specs.Prelude.{slice_index_or}
use Rattle.std.proofs.Common.{◌≡◌, ◌+◌, ◌≤◌, suc, length, ap, sym, ◌∙◌, subst}
use Rattle.cell_stages.specs.Contents.{away, batch_of, room_of}
use Rattle.dta_model.specs.Lent.{plan_of}
use Rattle.dta_model.specs.Plans.{ins}
use Rattle.link_queues.specs.declared.line.TheConstants.{MOST_RIDERS}
use Rattle.node_transfer.specs.Gathered.{grown_by, mail_line, room_told}
use Rattle.node_transfer.specs.Places.{changed_at}
use Rattle.node_transfer.proofs.OfMail.Gathers.{all-gathered, in_old, link-fits, link-there, mail-told, none-gathered, one-gathered}
use Rattle.node_transfer.proofs.OfMail.Lending.{at-place, link_of, mail-here, mail-inside, past}
use Rattle.node_transfer.proofs.OfMail.Parts.{ins-after}
use Rattle.node_transfer.proofs.OfMail.Puts.{none-put, put-next}
use Rattle.node_transfer.proofs.exchange.gather.Goals as goal

pub loop-place-init : goal.loop-place-init
loop-place-init c =
    let p = plan_of c.args.loading.now in
    (c.requires.cell ∙ none-gathered p c.args.node.0 c.args.step, none-put (room_of p (suc c.args.step)) c.args.mail.now)

pub bounds-mail-ins : goal.bounds-mail-ins
bounds-mail-ins c =
    let p = plan_of c.args.loading.now in
    mail-inside (ins-after p c.args.node.0 c.args.step away) (batch_of p c.args.step) c.ins-ins.result.now c.ins-ins.ensures c.loop-place.place
    c.loop-place-test.true c.args.mail.now c.loop-place.mail c.requires.count c.loop-place.invariant.1.others

pub gather_link-requires-clause-fits : goal.gather_link-requires-clause-fits
gather_link-requires-clause-fits c =
    let p = plan_of c.args.loading.now in
    let n = c.args.node.0 in
    let t = c.args.step in
    let ls = c.ins-ins.result.now in
    let j = c.loop-place.place in
    let b = link_of ls j in
    let made = ins-after p n t away in
    let here = at-place made (batch_of p t) ls c.ins-ins.ensures j c.loop-place-test.true in
    let m = slice_index_or c.loop-place.mail b c.index-mail-ins.result in
    let is = mail-here made (batch_of p t) ls c.ins-ins.ensures j c.loop-place-test.true c.index-mail-ins.result c.args.mail.now c.loop-place.mail c.requires.count c.loop-place.invariant.1.others c.requires.mail in
    subst (λ o. IsSomeAnd o (λ link. length link.line + length (mail_line m) ≤ MOST_RIDERS)) (sym (link-there p c.requires.step.sound n t j b here c.loop-place.cell c.loop-place.invariant.0))
    (subst (λ x. length (in_old p n t b).line + length (mail_line x) ≤ MOST_RIDERS) (sym is) (link-fits p c.requires.step.sound n t j b here))

pub loop-place-preserved : goal.loop-place-preserved
loop-place-preserved c =
    let p = plan_of c.args.loading.now in
    let sound = c.requires.step.sound in
    let n = c.args.node.0 in
    let t = c.args.step in
    let ls = c.ins-ins.result.now in
    let j = c.loop-place.place in
    let b = link_of ls j in
    let made = ins-after p n t away in
    let within = c.loop-place-test.true in
    let here = at-place made (batch_of p t) ls c.ins-ins.ensures j within in
    let old = c.loop-place.cell in
    let m = slice_index_or c.loop-place.mail b c.index-mail-ins.result in
    let (cells, puts) = c.loop-place.invariant in
    let is = mail-here made (batch_of p t) ls c.ins-ins.ensures j within c.index-mail-ins.result c.args.mail.now c.loop-place.mail c.requires.count puts.others c.requires.mail in
    let told = subst (λ o. IfSome o (λ link. c.gather_link.new.mail ≡ room_told t m link)) (link-there p sound n t j b here old cells) c.gather_link.ensures.mail in (
      one-gathered p sound n t j b here old c.gather_link.new.self cells
          (c.gather_link.ensures.link ∙ ap (λ x. record old { ins = changed_at (grown_by x) j old.ins }) is),
      put-next (room_of p (suc t)) (ins p n) j b c.gather_link.new.mail c.args.mail.now c.loop-place.mail here
          (mail-inside made (batch_of p t) ls c.ins-ins.ensures j within c.args.mail.now c.loop-place.mail c.requires.count puts.others)
          (told ∙ ap (λ x. room_told t x (in_old p n t b)) is ∙ mail-told p sound n t j b here) puts,
    )

pub returns-clause-cell : goal.returns-clause-cell
returns-clause-cell c =
    let p = plan_of c.args.loading.now in
    let n = c.args.node.0 in
    all-gathered p c.requires.step.sound n c.args.step c.loop-place.place c.loop-place.cell
    (past (ins-after p n c.args.step away) (batch_of p c.args.step) c.ins-ins.result.now c.ins-ins.ensures c.loop-place.place c.loop-place-test.false) c.loop-place.invariant.0
