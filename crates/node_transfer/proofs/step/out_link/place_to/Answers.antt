use Rattle.std.proofs.Common.{◌≡◌, ◌+◌, ◌<◌, ℕ, arith, get_or, ltb, rules, subst}
use Rattle.std.proofs.lemmas.List.Sorted.{IsPartitionPoint-from_clause, IsPartitionedBy-ltb}
use Rattle.cell_stages.specs.declared.out_link.OutLink.{OutLink}
use Rattle.node_transfer.specs.Inside.Pass.{out_links, place_of}
use Rattle.node_transfer.proofs.OfStep.ByKey.{order-by, place-at, point-place}
use Rattle.node_transfer.proofs.step.out_link.place_to.Goals as goal
use Rattle.node_transfer.proofs.step.out_link.place_to.Goals.{then-guess-eq0-via-then-guess-eq0, then-guess-eq0-via-else-guess-eq0+then-outs-guess-2}

pub returns : goal.returns
returns c =
    let order = order-by (λ o. o.link.0) c.args.outs.now c.requires.order in
    let parted = IsPartitionedBy-ltb (λ o. o.link.0) _ c.args.link.0 order in
    let point = IsPartitionPoint-from_clause (λ o. ltb o.link.0 c.args.link.0) _ _ c.partition_point.ensures.partitioned parted (λ a r q k. search rules) in
    point-place (λ o. o.link.0) c.args.link.0 c.args.outs.now c.partition_point.result order c.requires.there point

pub returns-then-guess-eq0 : goal.returns-then-guess-eq0
returns-then-guess-eq0 c =
    let key : OutLink → ℕ = λ o. o.link.0 in
    let outs = c.args.outs.now in
    let k = c.saturating_sub-guess.result in
    let d = c.index-outs-guess.result in
    let at : (e : OutLink) → ((i : ℕ) → i + 1 ≡ k → key (get_or outs i e) < c.args.link.0) → k ≡ place_of c.args.link.0 (out_links outs) =
    λ e before. place-at key c.args.link.0 outs k d e (order-by key outs c.requires.order) c.if-guess-outs.true c.if-outs-guess.true before in
    elim c.then-guess-eq0.branch [
      | then-guess-eq0-via-then-guess-eq0 w ↦ at d (λ i e. absurd (omega (arith, e, w.if-guess-eq0.true)))
      | then-guess-eq0-via-else-guess-eq0+then-outs-guess-2 w ↦
          at w.index-outs-guess-else-guess-eq0.result (λ i e. subst (λ j. key (get_or outs j w.index-outs-guess-else-guess-eq0.result) < c.args.link.0) (omega (arith, e)) w.if-outs-guess-2.true)
    ]
