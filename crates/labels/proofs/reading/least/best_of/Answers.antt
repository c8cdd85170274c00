use Rattle.std.proofs.Common.{◌≡◌, length, arith, subst}
use Rattle.std.proofs.lemmas.Option.{slice_get-get_or}
use Rattle.labels.specs.Reading.OfZone.{first_to}
use Rattle.labels.specs.Reading.Serves.{BestSoFar}
use Rattle.labels.proofs.reading.least.best_of.Goals as goal

pub loop-link-preserved : goal.loop-link-preserved
loop-link-preserved c =
    c.better-best.ensures c.args.firsts.now c.loop-link.link-index
    (slice_get-get_or c.args.firsts.now c.loop-link.link-index 0 c.loop-link-test.true) c.loop-link.invariant

pub returns : goal.returns
returns c =
    let all : c.loop-link.link-index ≡ length c.args.firsts.now = omega (arith, c.loop-link-test.false, c.loop-link.auto.link-index-end) in
    subst (λ n. BestSoFar (first_to c.args.labels.now c.args.step) c.args.firsts.now n c.loop-link.best) all c.loop-link.invariant
