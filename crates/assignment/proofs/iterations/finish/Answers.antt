use Rattle.std.proofs.Common.{refl, subst, ◌∙◌}
use Rattle.trip_costs.specs.Timings.{Timing}
use Rattle.trip_costs.specs.WalkCosts.{table_in}
use Rattle.gap.specs.Gap.{IsGapLine}
use Rattle.assignment.specs.Lent.{settings_in, traffic_in}
use Rattle.assignment.proofs.AssignmentFacts.{table-links}
use Rattle.assignment.proofs.iterations.finish.Goals as goal

pub gap_by_shares-requires-clause-table : goal.gap_by_shares-requires-clause-table
gap_by_shares-requires-clause-table g c κs within =
    let a = c.args.assignment.now in
    table-links (settings_in a) (traffic_in a) c.args.it.routes (table_in c.lent.result) (c.lent.ensures.times ∙ c.in_ok-costs.ensures.times)

pub returns : goal.returns
returns g c =
    let a = c.args.assignment.now in
    let routes = c.args.it.routes in record {
      same = refl;
      pushed = c.in_ok-push.ensures.items;
      gap = subst (λ (t : Timing). IsGapLine t a.net.now a.trips.now routes c.in_ok-line.line)
          (c.lent.ensures.costs ∙ c.in_ok-costs.ensures.costs) c.in_ok-line.ensures;
      last = record {
        routed = c.requires.routes;
        journeys = c.requires.loaded;
        times_are = c.in_ok-costs.ensures.times;
        waits_are = c.in_ok-waits.ensures;
        end_is = c.end_of-end.ensures;
      };
    }
