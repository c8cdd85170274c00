use Rattle.std.proofs.Common.{◌/◌, ◌<◌, sym, subst}
use Rattle.link_times.proofs.Places.{bucket_inside, place_inside}
use Rattle.trip_costs.proofs.adding.place_of.Goals as goal

pub returns-clause-inside : goal.returns-clause-inside
returns-clause-inside c =
    place_inside _ c.args.buckets.now.count c.args.link.0 (c.args.departure / c.args.buckets.now.steps) c.requires.link
    (subst (λ n. c.args.departure / c.args.buckets.now.steps < n) (sym c.requires.buckets.all) (bucket_inside c.args.buckets.now.steps c.args.buckets.now.loading.horizon c.args.departure c.requires.buckets.some c.requires.departure))
