use Rattle.std.proofs.Common.{arith, subst, sym}
use Rattle.std.proofs.lemmas.List.{take_all}
use Rattle.std.specs.Prelude.{All}
use Rattle.node_transfer.specs.declared.rest.TheConstants.{NO_STEP}
use Rattle.node_transfer.proofs.OfRest.Ready.{all_take, all_taken, least_next}
use Rattle.node_transfer.proofs.rest.first_of.Goals as goal

pub loop-link-preserved : goal.loop-link-preserved
loop-link-preserved g c =
    let here = c.link-item.is in
    let next = c.first_move.ensures in
    let before = c.loop-link.invariant in
    let least = c.min-first.ensures in (
      (λ step h. all_take (g.T.Rests.IsStill step) c.args.links.now c.loop-link.link-index c.link-item.result c.loop-link-test.true
          (before.0 step (omega (arith, h, least))) (subst (g.T.Rests.IsStill step) here (next.before step (omega (arith, h, least))))),
      least_next g.T.Rests.IsStill c.args.links.now c.loop-link.link-index c.link-item.result c.loop-link.first c.first_move.result
          c.min-first.result NO_STEP c.loop-link-test.true here least before.1 next.least,
    )

pub returns-clause-before : goal.returns-clause-before
returns-clause-before g c step h =
    all_taken (g.T.Rests.IsStill step) c.args.links.now c.loop-link.link-index c.loop-link-test.false (c.loop-link.invariant.0 step h)

pub returns-clause-least : goal.returns-clause-least
returns-clause-least g c h a =
    c.loop-link.invariant.1 h
    (subst (λ xs. All (g.T.Rests.IsStill c.loop-link.first) xs) (sym (take_all c.loop-link.link-index c.args.links.now c.loop-link-test.false)) a)
