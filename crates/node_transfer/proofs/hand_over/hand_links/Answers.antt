use Rattle.std.specs.List.{flat_map}
use Rattle.std.proofs.Common.{◌∙◌, ◌+◌, ◌<◌, ◌≤◌, arith, sym, subst, ap, length, drop}
use Rattle.std.specs.Prelude.{All, slice_index_or, slice_set}
use Rattle.node_transfer.specs.Hand.{Within, handed}
use Rattle.node_transfer.proofs.OfHandOver.Hands.{all_split, flat_end, flat_next, handed-append}
use Rattle.node_transfer.proofs.hand_over.hand_links.Goals as goal

pub hand-requires : goal.hand-requires
hand-requires g c =
    let riders = g.T.HasRiders.riders in
    let d = c.index-links-i.result in
    let v = c.loop-i.invariant in
    let all_there = c.loop-i.auto.links in
    let test = c.loop-i-test.true in
    let here : c.loop-i.i < length c.loop-i.links = omega (arith, all_there, test) in
    let all = subst (λ rs. All (Within (length c.args.loaded.now)) rs) (flat_next riders c.loop-i.links c.loop-i.i d d here) v.0 in
    subst (λ k. All (Within k) (riders (slice_index_or c.loop-i.links c.loop-i.i d))) (sym v.1) ((all_split (Within (length c.args.loaded.now)) _ _ all).0)

pub loop-i-preserved : goal.loop-i-preserved
loop-i-preserved g c =
    let riders = g.T.HasRiders.riders in
    let d = c.index-links-i.result in
    let v = c.loop-i.invariant in
    let all_there = c.loop-i.auto.links in
    let test = c.loop-i-test.true in
    let here : c.loop-i.i < length c.loop-i.links = omega (arith, all_there, test) in
    let next = flat_next riders c.loop-i.links c.loop-i.i d c.hand.new.self here in
    let all = subst (λ rs. All (Within (length c.args.loaded.now)) rs) next v.0 in (
      (all_split (Within (length c.args.loaded.now)) _ _ all).1,
      c.hand.ensures.same ∙ v.1,
      v.2 ∙ ap (λ rs. handed rs c.loop-i.loaded) next ∙ handed-append _ _ c.loop-i.loaded
          ∙ ap (λ l. handed (flat_map riders (drop (c.loop-i.i + 1) (slice_set c.loop-i.links c.loop-i.i c.hand.new.self))) l) (sym c.hand.ensures.done),
    )

pub returns-clause-done : goal.returns-clause-done
returns-clause-done g c =
    let riders = g.T.HasRiders.riders in
    let all_there = c.loop-i.auto.links in
    let test = c.loop-i-test.false in
    let past : length c.loop-i.links ≤ c.loop-i.i = omega (arith, all_there, test) in
    sym (c.loop-i.invariant.2 ∙ flat_end riders c.loop-i.links c.loop-i.i c.loop-i.loaded past)
