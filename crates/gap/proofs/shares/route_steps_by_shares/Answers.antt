use Rattle.std.proofs.Common.{◌*◌, ◌≤◌, ◌^◌, length, arith, sym, ◌∙◌, subst, ap}
use Rattle.std.specs.Prelude.{sum}
use Rattle.std.proofs.lemmas.Grind.{div_ceil_times}
use Rattle.std.proofs.lemmas.List.Sums.{sum_by-le}
use Rattle.gap.specs.Shares.{steps_over}
use Rattle.gap.proofs.Parts.{parts_sum}
use Rattle.gap.proofs.shares.route_steps_by_shares.Goals as goal

pub returns-clause-is : goal.returns-clause-is
returns-clause-is g c =
    let parts = c.in_ok-parts.parts in
    let trips = c.args.timed.now.trips.now in
    let shares = c.min-shares.result in
    let some = c.requires.workers in
    let whole = (div_ceil_times (length trips) shares (omega (arith, some, c.min-shares.ensures))).0 in
    let size = c.div_ceil-size.result in
    let covers : length trips ≤ size * shares = subst (λ n. length trips ≤ n * shares) (sym c.div_ceil-size.ensures) whole in
    let long = parts.ok.0 in
    let sum_is = parts_sum (steps_over c.args.timed.now c.args.routes.now) size (length trips) shares parts.items (omega (arith, long, c.in_ok-parts.ensures.len)) covers (λ i h. (c.in_ok-parts.ensures.each i 0 h).1.met) in
    c.sum_of.ensures ∙ ap (λ xs. sum xs) c.deref.ensures.value ∙ sum_is

pub returns-clause-low : goal.returns-clause-low
returns-clause-low g c =
    let parts = c.in_ok-parts.parts in
    let few = c.args.timed.now.are.few in
    let long = parts.ok.0 in
    let many : length parts.items ≤ 4 = omega (arith, long, c.in_ok-parts.ensures.len, c.min-shares.ensures) in
    let all = sum_by-le (λ x. x) (2 ^ 103) parts.items (λ k d h. let p = (c.in_ok-parts.ensures.each k d (omega (arith, h, long, c.in_ok-parts.ensures.len))).1.met.1 in omega (arith, p, few)) in
    let is = c.sum_of.ensures ∙ ap (λ xs. sum xs) c.deref.ensures.value in
    omega (arith, all, is, many)
