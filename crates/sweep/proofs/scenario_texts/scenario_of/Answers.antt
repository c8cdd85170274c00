use Rattle.assignment.specs.Lent.{settings_in, traffic_in}
use Rattle.sweep.proofs.ScenarioFacts.{has-texts}
use Rattle.sweep.proofs.scenario_texts.scenario_of.Goals as goal

pub returns-clause-texts : goal.returns-clause-texts
returns-clause-texts c =
    has-texts (settings_in c.args.assignment.now) (traffic_in c.args.assignment.now) c.args.assigned.now _ c.requires.assigned
    c.in_ok-agent.ensures c.in_ok-link_time.ensures c.in_ok-origin_wait.ensures c.in_ok-gap.ensures c.in_ok-report.ensures
