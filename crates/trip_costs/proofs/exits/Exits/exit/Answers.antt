use Rattle.std.proofs.Common.{◌≡◌, ◌+◌, ◌<◌, ◌≤◌, ◌/◌, ◌∙◌, length, arith, ap, subst, sym}
use Rattle.dta_model.specs.LinkTimes.{time_at}
use Rattle.dta_model.specs.declared.loading.TheConstants.{MOST_HORIZON}
use Rattle.link_times.specs.TimeTables.{IsShort}
use Rattle.trip_costs.specs.Latest.{latest_before}
use Rattle.trip_costs.specs.TripCosts.{after_time}
use Rattle.trip_costs.proofs.Buckets.{exit_in, exit_past}
use Rattle.trip_costs.proofs.Walks.{exit_later, exit_soon}
use Rattle.trip_costs.proofs.exits.Exits.exit.Goals as goal

pub returns-then-step-horizon-clause-step : goal.returns-then-step-horizon-clause-step
returns-then-step-horizon-clause-step c =
    let now = c.args.self.now in
    let l = c.args.link.0 in
    let s = c.args.step in
    let some : 1 ≤ c.args.self.now.bucket = subst (λ v. 1 ≤ v.bucket) c.self.view_is (omega (arith, c.bucket_steps.ensures.is, c.bucket_steps.ensures.some)) in
    let own : c.own_exit-own.result ≡ after_time c.args.self.now c.args.link.0 c.args.step = subst (λ v. c.own_exit-own.result ≡ after_time v c.args.link.0 c.args.step) c.self.view_is c.own_exit-own.ensures in
    let before : c.before-then-step-horizon.result ≡ latest_before (after_time c.args.self.now c.args.link.0) c.args.self.now.bucket (c.args.step / c.args.self.now.bucket) =
    c.before-then-step-horizon.ensures ∙ ap (λ n. latest_before (after_time c.args.self.now c.args.link.0) c.args.self.now.bucket (c.args.step / n)) (c.bucket_steps.ensures.is ∙ ap (λ v. v.bucket) c.self.view_is) in
    let is = exit_in now l s some in
    omega (arith, is, own, before, c.max.ensures)

pub returns-else-step-horizon-clause-step : goal.returns-else-step-horizon-clause-step
returns-else-step-horizon-clause-step c =
    let own : c.own_exit-own.result ≡ after_time c.args.self.now c.args.link.0 c.args.step = subst (λ v. c.own_exit-own.result ≡ after_time v c.args.link.0 c.args.step) c.self.view_is c.own_exit-own.ensures in
    own ∙ sym (exit_past c.args.self.now c.args.link.0 c.args.step (subst (λ v. v.horizon ≤ c.args.step) c.self.view_is (omega (arith, c.horizon.ensures.is, c.if-step-horizon.false))))

pub returns-then-step-horizon-clause-later : goal.returns-then-step-horizon-clause-later
returns-then-step-horizon-clause-later c =
    let one : 1 ≤ time_at c.args.self.now c.args.link.0 c.args.step = subst (λ v. 1 ≤ time_at v c.args.link.0 c.args.step) c.self.view_is (c.horizon.ensures.sound.least c.args.link.0 c.args.step (subst (λ v. c.args.link.0 < length v.free) (sym c.self.view_is) c.requires.link)) in
    subst (λ n. c.args.step < n) (sym (returns-then-step-horizon-clause-step c)) (exit_later c.args.self.now c.args.link.0 c.args.step one)

pub returns-then-step-horizon-clause-soon : goal.returns-then-step-horizon-clause-soon
returns-then-step-horizon-clause-soon c =
    subst (λ n. n ≤ c.args.step + MOST_HORIZON) (sym (returns-then-step-horizon-clause-step c))
    (exit_soon c.args.self.now c.args.link.0 c.args.step (subst IsShort c.self.view_is c.self.invariant.short) (subst (λ v. v.horizon ≤ MOST_HORIZON) c.self.view_is c.self.invariant.horizon))

pub returns-else-step-horizon-clause-later : goal.returns-else-step-horizon-clause-later
returns-else-step-horizon-clause-later c =
    let one : 1 ≤ time_at c.args.self.now c.args.link.0 c.args.step = subst (λ v. 1 ≤ time_at v c.args.link.0 c.args.step) c.self.view_is (c.horizon.ensures.sound.least c.args.link.0 c.args.step (subst (λ v. c.args.link.0 < length v.free) (sym c.self.view_is) c.requires.link)) in
    subst (λ n. c.args.step < n) (sym (returns-else-step-horizon-clause-step c)) (exit_later c.args.self.now c.args.link.0 c.args.step one)

pub returns-else-step-horizon-clause-soon : goal.returns-else-step-horizon-clause-soon
returns-else-step-horizon-clause-soon c =
    subst (λ n. n ≤ c.args.step + MOST_HORIZON) (sym (returns-else-step-horizon-clause-step c))
    (exit_soon c.args.self.now c.args.link.0 c.args.step (subst IsShort c.self.view_is c.self.invariant.short) (subst (λ v. v.horizon ≤ MOST_HORIZON) c.self.view_is c.self.invariant.horizon))
