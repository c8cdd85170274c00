use Rattle.std.proofs.Common.{◌≡◌, ◌≤◌, ◌∙◌, ◌*◌, ◌-◌, arith, ap}
use Rattle.trip_costs.specs.TripCosts.{after_time}
use Rattle.trip_costs.proofs.Buckets.{latest_is, latest_none}
use Rattle.trip_costs.proofs.exits.latest_by.Goals as goal

pub returns-then-bucket-eq0 : goal.returns-then-bucket-eq0
returns-then-bucket-eq0 c = latest_none c.args.times.now c.args.link.0 c.args.bucket (omega (arith, c.if-bucket-eq0.true))

pub returns : goal.returns
returns c =
    let t = c.args.times.now in
    let l = c.args.link.0 in
    let some : 1 ≤ c.args.times.now.bucket = omega (arith, c.bucket_steps-steps.ensures.is, c.bucket_steps-steps.ensures.some) in
    let own : c.own_exit-own.result ≡ after_time c.args.times.now c.args.link.0 (c.args.bucket * c.args.times.now.bucket - 1) =
    c.own_exit-own.ensures ∙ ap (λ n. after_time c.args.times.now c.args.link.0 (c.args.bucket * n - 1)) c.bucket_steps-steps.ensures.is in
    let is = latest_is t l c.args.bucket c.args.before c.own_exit-own.result some (omega (arith, c.if-bucket-eq0.false)) c.requires.before own in
    omega (arith, is, c.max.ensures)
