use Rattle.std.proofs.Common.{◌≤◌, ap, sym, subst, ◌∙◌}
use Rattle.std.proofs.lemmas.List.{take_all}
use Rattle.net_core.specs.Network.{noted, zones}
use Rattle.skims.proofs.ZoneFacts.{noted_in, noted-more}
use Rattle.skims.proofs.zones.zone_ids.Goals as goal

pub loop-node-preserved : goal.loop-node-preserved
loop-node-preserved c = record {
  found = c.in_ok-note.ensures.found ∙ ap (λ found. noted found c.node.result.zone) c.loop-node.invariant.found
      ∙ sym (noted-more c.args.net.now.nodes c.loop-node.node c.node.result c.node.ensures);
  ids = c.in_ok-note.ensures.ids;
}

pub returns : goal.returns
unfolding zones
returns c =
    let nodes = c.args.net.now.nodes in
    let past = subst (λ n. n ≤ c.loop-node.node) c.node_count-node-end.ensures.count c.loop-node-test.false in
    c.loop-node.invariant.ids ∙ c.loop-node.invariant.found
    ∙ ap (λ ns. noted_in ns) (take_all c.loop-node.node nodes past)
