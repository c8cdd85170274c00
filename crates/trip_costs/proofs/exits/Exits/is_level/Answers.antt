use Rattle.std.proofs.Common.{inl, inr, ◌+◌, ◌∙◌, ap, arith, subst, sym}
use Rattle.std.proofs.lemmas.Bool.{leb-true}
use Rattle.trip_costs.specs.Latest.{latest_exit}
use Rattle.trip_costs.specs.TripCosts.{IsLevelBy, steps_by_trips}
use Rattle.trip_costs.proofs.Buckets.{level_read}
use Rattle.trip_costs.proofs.exits.Exits.is_level.Goals as goal

pub returns-then-time-free : goal.returns-then-time-free
returns-then-time-free c = λ told. subst (λ v. IsLevelBy (steps_by_trips v) v c.args.link.0 c.args.bucket) c.self.view_is
    (level_read c.self.inside.times c.args.link.0 c.args.bucket c.bucket_steps-steps.result c.horizon-horizon.result c.at-free.result c.at-time.result c.before-2.result
    c.bucket_steps-steps.ensures.is c.bucket_steps-steps.ensures.some c.horizon-horizon.ensures.is c.at-free.ensures.time c.at-time.ensures.time
    (c.before-2.ensures ∙ ap (λ v. latest_exit v c.args.link.0 c.args.bucket) (sym c.self.view_is)) c.if-before-first.false (inl c.if-time-free.true))

pub returns-else-time-free : goal.returns-else-time-free
returns-else-time-free c = λ told. subst (λ v. IsLevelBy (steps_by_trips v) v c.args.link.0 c.args.bucket) c.self.view_is
    (level_read c.self.inside.times c.args.link.0 c.args.bucket c.bucket_steps-steps.result c.horizon-horizon.result c.at-free.result c.at-time.result c.before-2.result
    c.bucket_steps-steps.ensures.is c.bucket_steps-steps.ensures.some c.horizon-horizon.ensures.is c.at-free.ensures.time c.at-time.ensures.time
    (c.before-2.ensures ∙ ap (λ v. latest_exit v c.args.link.0 c.args.bucket) (sym c.self.view_is)) c.if-before-first.false (inr (let h = leb-true (c.min-end.result + c.at-time.result) (c.horizon-horizon.result + 1) told in omega (arith, h, c.min-end.ensures))))
