use Rattle.std.proofs.Common.{◌∙◌, sym}
use Rattle.route_flows.proofs.Started.{filling_more, filling_none}
use Rattle.route_flows.proofs.kept.fill_in.Goals as goal

pub loop-v-init : goal.loop-v-init
loop-v-init c = filling_none c.args.others.now c.args.walks.now

pub fill-requires-clause-each : goal.fill-requires-clause-each
fill-requires-clause-each c =
    c.loop-v.invariant.left_many ∙ c.requires ∙ sym c.loop-v.invariant.as_many

pub loop-v-preserved : goal.loop-v-preserved
loop-v-preserved c =
    filling_more c.args.others.now c.loop-v.v c.args.walks.now c.loop-v.walks c.loop-v.others c.fill.new.walks c.fill.new.others c.loop-v-test.true c.requires c.fill.ensures.walks c.fill.ensures.others c.loop-v.invariant
