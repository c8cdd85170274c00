use Rattle.sweep.proofs.Determined.{scenarios_stand_alone}
use Rattle.sweep.proofs.laws.scenarios_stand_alone.Goals as goal

pub returns : goal.returns
returns c =
    scenarios_stand_alone (record {
      started = c.routes_are_determined.ensures.started;
      next = c.routes_are_determined.ensures.next;
      since = c.iterations_are_determined.ensures;
    })
