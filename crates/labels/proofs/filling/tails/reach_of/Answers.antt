use Rattle.std.proofs.Common.{◌+◌, ◌≤◌, arith, subst}
use Rattle.trip_costs.specs.WalkCosts.{steps_in, table_in}
use Rattle.dta_model.specs.LinkTimes.{time_at}
use Rattle.trip_costs.proofs.Timed.{most_by}
use Rattle.labels.proofs.OfFilling.NarrowFacts.{spans_within}
use Rattle.labels.proofs.filling.tails.reach_of.Goals as goal

pub returns-clause-fits : goal.returns-clause-fits
returns-clause-fits c = λ most beyond few below. record {
  longest = c.most_wait-wait.result + c.most_time.result;
  within = spans_within (table_in c.args.timed.now.costs) (steps_in c.args.timed.now.costs) c.args.timed.now.router.now c.most_wait-wait.result c.most_time.result c.args.timed.now.each c.most_wait-wait.ensures.most (λ l e h. most_by c.args.timed.now.costs l c.most_time.result (λ r. subst (λ t. time_at t l r ≤ c.most_time.result) c.times.ensures (c.most_time.ensures l r (omega (arith, h, c.args.timed.now.counted)))) e);
  fits = omega (arith, below, c.horizon.ensures.is);
  near = omega (arith, few, c.horizon.ensures.is, c.requires);
}
