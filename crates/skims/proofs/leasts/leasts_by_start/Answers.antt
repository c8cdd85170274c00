use Rattle.trip_costs.specs.Costs.{timing_of}
use Rattle.std.proofs.Common.{◌+◌, sym, subst, take}
use Rattle.net_core.specs.Network.{zones}
use Rattle.labels.specs.ToZone.{destination}
use Rattle.skims.specs.Leasts.{AreFrom, AreTo}
use Rattle.skims.proofs.ZipFacts.{zip-more}
use Rattle.skims.proofs.leasts.leasts_by_start.Goals as goal

pub loop-start-preserved : goal.loop-start-preserved
loop-start-preserved c =
    let labels = c.args.labels.now in
    let costs = timing_of labels.costs in
    let net = labels.net in
    let d = destination labels c.args.place in
    let i = c.loop-start.start-index in
    subst (λ ls. AreTo costs net (take (i + 1) c.args.starts.now) d ls) (sym c.in_ok-push.ensures.items)
    (zip-more (λ start from. AreFrom costs net (zones net.nodes) d start from.items) c.args.starts.now c.loop-start.leasts.items i 0
    c.in_ok-leasts_from_each.field-0 c.loop-start-test.true c.loop-start.invariant c.in_ok-leasts_from_each.ensures)
