use Rattle.std.proofs.Common.{◌/◌, ◌<◌, ◌≤◌, length, ap, sym, ◌∙◌, subst, slice_index}
use Rattle.dta_model.specs.LinkTimes.{bucket_count, place_in, time_at}
use Rattle.link_times.proofs.Places.{bucket_inside}
use Rattle.link_times.proofs.Reading.{read_is, read_least}
use Rattle.link_times.proofs.RowFacts.{early_is}
use Rattle.link_times.proofs.table.LinkTimes.at.Goals as goal

pub beside-requires-clause-bucket : goal.beside-requires-clause-bucket
beside-requires-clause-bucket c =
    let t = c.self.inside in
    subst (λ v. c.args.step / t.bucket < bucket_count v) c.self.view_is (bucket_inside t.bucket t.horizon c.args.step c.self.invariant.lasts c.if-step-self.true)

pub returns-then-step-self-clause-time : goal.returns-then-step-self-clause-time
returns-then-step-self-clause-time c =
    let now = c.args.self.now in
    let l = c.args.link.0 in
    let step = c.args.step in
    c.beside.ensures
    ∙ ap (λ v. slice_index now.times (place_in (bucket_count now) l (step / v.bucket))) c.self.view_is
    ∙ sym (early_is now l step (subst (λ v. step < v.horizon) c.self.view_is c.if-step-self.true))

pub returns-then-step-self-clause-least : goal.returns-then-step-self-clause-least
returns-then-step-self-clause-least c =
    let t = c.self.inside in
    let now = c.args.self.now in
    let l = c.args.link.0 in
    let step = c.args.step in
    let small = subst (λ v. l < length v.free) (sym c.self.view_is) c.requires in
    let read = subst (λ x. 1 ≤ x) (read_is t c.self.invariant l step small c.if-step-self.true 0) (read_least t c.self.invariant l step small c.if-step-self.true 0) in
    let is = c.beside.ensures
    ∙ ap (λ v. slice_index now.times (place_in (bucket_count now) l (step / v.bucket))) c.self.view_is
    ∙ sym (early_is now l step (subst (λ v. step < v.horizon) c.self.view_is c.if-step-self.true)) in
    subst (λ x. 1 ≤ x) (sym is) (subst (λ v. 1 ≤ time_at v l step) c.self.view_is read)
