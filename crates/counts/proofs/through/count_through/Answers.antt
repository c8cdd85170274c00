use Rattle.std.specs.List.Sorted.{IsPermutation}
use Rattle.std.proofs.Common.{subst, sym, ◌∙◌}
use Rattle.dta_model.specs.Lent.{plan_of}
use Rattle.counts.proofs.Entered.{pairs_counted}
use Rattle.counts.proofs.through.count_through.Goals as goal

pub returns : goal.returns
returns c =
    c.of.ensures
    ∙ pairs_counted (plan_of c.args.loading.now) c.args.link.0 c.in_ok-pairs.pairs.items c.as_slice.result.now c.in_ok-counts.counts.items c.in_ok-pairs.ensures
    (subst (λ L. IsPermutation c.in_ok-pairs.pairs.items L) (sym c.as_slice.ensures.value) c.sort_unstable.ensures.permutation) c.in_ok-counts.ensures
