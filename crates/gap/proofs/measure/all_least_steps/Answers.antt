use Rattle.std.proofs.Common.{◌<◌, length, arith, get_or, None, sym, subst}
use Rattle.std.proofs.lemmas.Option.{slice_get-get_or, slice_get_read}
use Rattle.std.proofs.Common.{refl}
use Rattle.gap.specs.Told.{least_at}
use Rattle.gap.proofs.Sums.{least_at-is, over-more}
use Rattle.gap.proofs.measure.all_least_steps.Goals as goal

pub loop-v-preserved : goal.loop-v-preserved
loop-v-preserved c =
    let v = c.loop-v.v in
    let routes = c.args.routes.now in
    let told = c.args.told.now in
    let inv = c.loop-v.invariant in
    let inside : v < length told = subst (λ n. v < n) (sym c.requires.each) c.loop-v-test.true in
    let more = over-more v (least_at routes told) in
    let here = least_at-is routes told v c.index-routes-v.result (get_or told v None) (slice_get_read routes (length routes) v c.index-routes-v.result refl c.loop-v-test.true c.index-routes-v.is) (slice_get-get_or told v None inside) in
    (omega (arith, more, here, inv.0, c.least_steps.ensures), omega (arith, inv.1, c.least_steps.type_inv))
