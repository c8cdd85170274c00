use Rattle.std.proofs.Common.{◌≡◌, ◌∙◌, arith, ap}
use Rattle.trip_costs.specs.Entries.{entry_number, last_step}
use Rattle.trip_costs.proofs.entries.number_of.Goals as goal

pub returns : goal.returns
unfolding entry_number
returns c =
    let last : c.last_of-last.result ≡ last_step c.args.waits.now.bucket c.args.waits.now.horizon c.args.bucket =
    c.last_of-last.ensures.is ∙ ap (λ n. last_step n c.horizon-horizon.result c.args.bucket) c.bucket_steps.ensures.is ∙ ap (λ n. last_step c.args.waits.now.bucket n c.args.bucket) c.horizon-horizon.ensures.is in
    omega (arith, c.requires.before, last, c.in_bucket.ensures, c.horizon-horizon.ensures.is, c.min.ensures, c.max.ensures)
