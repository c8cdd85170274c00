use Rattle.trip_costs.specs.Costs.{timing_of}
use Rattle.std.proofs.Common.{◌+◌, ◌<◌, ap, sym, subst, take, ◌∙◌}
use Rattle.net_core.specs.Network.{zones}
use Rattle.labels.specs.Named.{zone_named}
use Rattle.labels.specs.ToZone.{destination}
use Rattle.skims.specs.Leasts.{AreFrom, IsFrom}
use Rattle.skims.proofs.ZipFacts.{zip-more}
use Rattle.skims.proofs.leasts.leasts_from_each.Goals as goal

pub loop-origin-preserved : goal.loop-origin-preserved
loop-origin-preserved c =
    let labels = c.args.labels.now in
    let costs = timing_of labels.costs in
    let net = labels.net in
    let d = destination labels c.args.place in
    let origin = c.loop-origin.origin in
    subst (λ ls. AreFrom costs net (take (origin + 1) (zones net.nodes)) d c.args.start ls) (sym c.in_ok-push.ensures.items)
    (zip-more (IsFrom costs net d c.args.start) (zones net.nodes) c.loop-origin.leasts.items origin 0 c.least_from.result
    (subst (λ n. origin < n) c.requires.zones c.loop-origin-test.true) c.loop-origin.invariant
    (λ differ. c.least_from.ensures (λ same. differ (ap (λ z. zone_named net z) (same ∙ sym c.requires.zone)))))
