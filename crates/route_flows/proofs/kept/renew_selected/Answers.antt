use Rattle.std.proofs.Common.{◌∙◌, sym}
use Rattle.route_flows.specs.Asked.{takes}
use Rattle.route_flows.proofs.Averaged.{renewing_more, renewing_none}
use Rattle.route_flows.proofs.kept.renew_selected.Goals as goal

pub loop-v-init : goal.loop-v-init
loop-v-init c = renewing_none (takes c.args.change.now) c.args.walks.now c.args.routes.now

pub renew-requires-clause-each : goal.renew-requires-clause-each
renew-requires-clause-each c =
    c.loop-v.invariant.as_many ∙ c.requires.each ∙ sym c.loop-v.invariant.renews.as_many

pub loop-v-preserved : goal.loop-v-preserved
loop-v-preserved c =
    renewing_more (takes c.args.change.now) c.args.walks.now c.loop-v.v c.args.routes.now c.loop-v.routes c.loop-v.walks c.renew.new.routes c.renew.new.walks c.loop-v-test.true c.requires.each c.renew.ensures.routes c.renew.ensures.walks c.loop-v.invariant
