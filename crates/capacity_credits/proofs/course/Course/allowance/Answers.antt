use Rattle.std.proofs.Common.{◌≡◌, ◌∙◌, ◌+◌, ◌-◌, arith, ap, sym}
use Rattle.capacity_credits.proofs.Courses.{carried_there, has_begun, rate_held, window}
use Rattle.dta_model.specs.Allowance.{allowance, credited}
use Rattle.capacity_credits.proofs.course.Course.allowance.Goals as goal

pub returns : goal.returns
returns c =
    let rates = c.args.self.now.rates in
    let step = c.args.step in
    let place = c.latest-place.result in
    let from = (window rates.windows place).from in
    let given = rw c.as_slice-windows.ensures at c.grant_after.ensures in
    let is = rw c.as_slice-windows.ensures at c.latest-place.ensures in
    let rate = rw c.as_slice-windows.ensures at c.credited_of-rate.ensures in
    let begun = has_begun rates.windows place step is in
    let on : from + (step - from) ≡ step = omega (arith, begun) in
    given rates from
    (λ k b. ap credited (rate_held rates.usual rates.windows place (from + k) step
    c.requires.course.given.windows is (omega arith) (omega (arith, b, begun)))
    ∙ sym rate)
    (c.index.ensures
    ∙ carried_there rates c.args.delta place c.index.result.now c.args.self.now.credits.items
    c.requires.course is.within)
    ∙ ap (allowance rates c.args.delta) on
