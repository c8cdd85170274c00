use Rattle.std.proofs.Common.{length}
use Rattle.net_core.specs.ByNode.{end_of, start_of}
use Rattle.net_core.specs.Network.{as_links, numbers_below}
use Rattle.net_core.specs.Rows.{IsBetween}
use Rattle.net_core.proofs.ByNodeFacts.{as_links-more}
use Rattle.net_core.proofs.ListedFacts.{listed-more}
use Rattle.net_core.proofs.RowsFacts.{link_in-all}
use Rattle.net_core.proofs.by_node.link_lists.Goals as goal

pub push-requires : goal.push-requires
push-requires c =
    let place = c.loop-place.place in
    let between = link_in-all (IsBetween c.args.nodes.now) c.args.links.now place c.loop-place-test.true c.requires.between in
    rw (c.row-ends.ensures, c.loop-place.invariant.ins.bounded) between.to

pub push-requires-in-loop-place : goal.push-requires-in-loop-place
push-requires-in-loop-place c =
    let place = c.loop-place.place in
    let between = link_in-all (IsBetween c.args.nodes.now) c.args.links.now place c.loop-place-test.true c.requires.between in
    rw (c.row-ends.ensures, c.loop-place.invariant.outs.bounded) between.from

pub loop-place-preserved : goal.loop-place-preserved
loop-place-preserved c =
    let place = c.loop-place.place in
    let count = length c.args.nodes.now in
    let links = c.args.links.now in
    let between = link_in-all (IsBetween c.args.nodes.now) links place c.loop-place-test.true c.requires.between in
    record {
      ins = rw (c.in_ok-push.ensures, c.row-ends.ensures, as_links-more place)
          (listed-more c.loop-place.ins count (end_of links) (as_links (numbers_below place)) (record { 0 = place }) between.to c.loop-place.invariant.ins);
      outs = rw (c.in_ok-push-2.ensures, c.row-ends.ensures, as_links-more place)
          (listed-more c.loop-place.outs count (start_of links) (as_links (numbers_below place)) (record { 0 = place }) between.from c.loop-place.invariant.outs);
    }
