use Rattle.std.specs.Prelude.{All}
use Rattle.std.proofs.Common.{◌*◌, ◌≤◌, arith, length, ap, sym, ◌∙◌, subst}
use Rattle.std.proofs.lemmas.List.{length-replicate}
use Rattle.net_core.specs.declared.rows.TheConstants.{MOST_LINKS}
use Rattle.link_times.proofs.Links.{steps_few, steps_least}
use Rattle.link_times.proofs.Tabled.{empty_is, free_table_is}
use Rattle.link_times.proofs.table.LinkTimes.free.Goals as goal

pub free_times-requires-clause-least : goal.free_times-requires-clause-least
free_times-requires-clause-least c = subst (λ L. All (λ f. 1 ≤ f) L) (sym (c.deref.ensures.value ∙ c.in_ok-free.ensures.steps)) (steps_least c.args.net.now c.free_steps.ensures.sound)

pub free_times-requires-clause-few : goal.free_times-requires-clause-few
free_times-requires-clause-few c = subst (λ L. length L ≤ MOST_LINKS) (sym (c.deref.ensures.value ∙ c.in_ok-free.ensures.steps)) (steps_few c.args.net.now c.free_steps.ensures.sound)

pub invariant_of-result : goal.invariant_of-result
invariant_of-result c = record {
  lasts = c.requires.bucket;
  begins = c.requires.horizon;
  buckets = c.buckets_until-buckets.ensures.is;
  size = c.in_ok-times.ensures.size ∙ ap (λ L. length L * c.buckets_until-buckets.result) c.deref.ensures.value;
  numbers = length-replicate (length c.in_ok-times.times.items) 0;
  free = subst (λ L. All (λ f. 1 ≤ f) L) (sym c.in_ok-free.ensures.steps) (steps_least c.args.net.now c.free_steps.ensures.sound);
  times = c.in_ok-times.ensures.least;
  rows = λ k h. absurd (omega (arith, h));
}

pub returns-clause-table : goal.returns-clause-table
returns-clause-table c = free_table_is c.args.net.now c.args.bucket c.args.horizon c.buckets_until-buckets.result c.in_ok-free.free.items c.deref.result.now c.in_ok-times.times.items c.buckets_until-buckets.ensures.some c.buckets_until-buckets.ensures.is c.in_ok-free.ensures.steps c.deref.ensures.value c.in_ok-times.ensures

pub returns-clause-empty : goal.returns-clause-empty
returns-clause-empty c =
    λ p en eh. free_table_is c.args.net.now c.args.bucket c.args.horizon c.buckets_until-buckets.result c.in_ok-free.free.items c.deref.result.now c.in_ok-times.times.items c.buckets_until-buckets.ensures.some c.buckets_until-buckets.ensures.is c.in_ok-free.ensures.steps c.deref.ensures.value c.in_ok-times.ensures
    ∙ empty_is p c.args.net.now c.args.bucket c.args.horizon en eh
