use Rattle.std.specs.Prelude.{All}
use Rattle.std.proofs.Common.{◌≡◌, ◌≤◌, sym, ◌∙◌, subst}
use Rattle.dta_model.specs.Lent.{plan_of}
use Rattle.std.proofs.lemmas.Result.{IfOk-weaker}
use Rattle.dta_model.specs.LinkTimes.{table_of}
use Rattle.dta_model.specs.declared.loading.TheConstants.{MOST_HORIZON}
use Rattle.link_times.proofs.Links.{steps_least, steps_most}
use Rattle.link_times.proofs.Tabled.{table_is}
use Rattle.link_times.proofs.table.LinkTimes.of.Goals as goal

pub means-requires-clause-least : goal.means-requires-clause-least
means-requires-clause-least c = subst (λ L. All (λ f. 1 ≤ f) L) (sym (c.deref.ensures.value ∙ c.in_ok-free.ensures.steps)) (steps_least c.args.loading.now.net.now c.free_steps.ensures.sound)

pub means-requires-clause-most : goal.means-requires-clause-most
means-requires-clause-most c = subst (λ L. All (λ f. f ≤ MOST_HORIZON) L) (sym (c.deref.ensures.value ∙ c.in_ok-free.ensures.steps)) (steps_most c.args.loading.now.net.now c.free_steps.ensures.sound)

pub counted-requires-clause-free : goal.counted-requires-clause-free
counted-requires-clause-free c = subst (λ L. All (λ f. 1 ≤ f) L) (sym c.in_ok-free.ensures.steps) (steps_least c.args.loading.now.net.now c.free_steps.ensures.sound)

pub returns-clause-table : goal.returns-clause-table
returns-clause-table c =
    let p = plan_of c.args.loading.now in
    let all = c.in_ok-sums.field-0 in
    let is = table_is p c.requires.sound c.args.bucket c.buckets_until-buckets.result c.in_ok-free.free.items c.deref.result.now all.sums.items all.counts.items c.in_ok-times.times.items c.deref-2.result.now c.deref-3.result.now
    c.buckets_until-buckets.ensures.some c.buckets_until-buckets.ensures.is c.in_ok-free.ensures.steps c.deref.ensures.value c.in_ok-sums.ensures.size c.in_ok-sums.ensures.many
    c.deref-2.ensures.value c.deref-3.ensures.value c.in_ok-sums.ensures.added c.in_ok-times.ensures in
    IfOk-weaker c.counted.result (λ table. table ≡ record { bucket = c.args.bucket; horizon = c.args.loading.now.horizon; free = c.in_ok-free.free.items; times = c.in_ok-times.times.items; entered = all.counts.items }) (λ table. table ≡ table_of (plan_of c.args.loading.now) c.args.bucket)
    (λ x e. e ∙ is) c.counted.ensures
