use Rattle.std.specs.List.Sorted.{IsPermutation}
use Rattle.std.specs.Prelude.{All}
use Rattle.std.proofs.Common.{length, arith, subst, sym, ◌∙◌}
use Rattle.dta_model.specs.Lent.{plan_of}
use Rattle.counts.specs.Turns.{IsOfNet}
use Rattle.counts.proofs.OfNet.{turns_of_net}
use Rattle.counts.proofs.Adding.{turns_counted}
use Rattle.counts.proofs.turns.count_turns.Goals as goal

pub returns-clause-counts : goal.returns-clause-counts
returns-clause-counts c =
    let each = c.requires.sound.each in
    c.of.ensures
    ∙ turns_counted (plan_of c.args.loading.now) c.args.bucket (length c.args.loading.now.trips.now) c.in_ok-turns.turns.items c.as_slice.result.now c.in_ok-counts.counts.items (omega (arith, each)) c.in_ok-turns.ensures
    (subst (λ L. IsPermutation c.in_ok-turns.turns.items L) (sym c.as_slice.ensures.value) c.sort_unstable.ensures.permutation) c.in_ok-counts.ensures

pub returns-clause-of_net : goal.returns-clause-of_net
returns-clause-of_net c = subst (λ L. All (IsOfNet c.args.loading.now.net.now c.args.loading.now.horizon c.args.bucket) L) (sym (returns-clause-counts c)) (turns_of_net (plan_of c.args.loading.now) c.args.bucket c.requires.bucket)
