use Rattle.std.proofs.Common.{◌≡◌, ◌*◌, arith, subst}
use Rattle.dta_model.specs.LinkTimes.{buckets_to}
use Rattle.trip_costs.specs.Entries.{AreEntryNumbers}
use Rattle.trip_costs.proofs.Entering.{entries_are}
use Rattle.trip_costs.proofs.entries.Entries.of.Goals as goal

pub returns : goal.returns
returns c =
    let all : c.loop-link.link ≡ c.args.links = omega (arith, c.loop-link-test.false, c.loop-link.auto.link-end) in
    entries_are c.args.waits.now c.args.links c.loop-link.numbers.items c.buckets-buckets.ensures.last c.requires.size
    (subst (λ n. AreEntryNumbers c.args.waits.now (n * buckets_to c.args.waits.now.bucket c.args.waits.now.horizon) c.loop-link.numbers.items) all c.loop-link.invariant)
    c.bucket_steps.result c.horizon.result c.bucket_steps.ensures.is c.horizon.ensures.is
