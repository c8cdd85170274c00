use Rattle.audit.specs.Audit.{checks_of}
use Rattle.assignment.proofs.Determined.{RouteLaws}
use Rattle.commands.proofs.AnyOrder.{texts_in_any_order}
use Rattle.commands.proofs.Determined.{scenarios_are_alone, texts_are_determined}
use Rattle.commands.specs.Texts.{audit_plan}
use Rattle.commands.proofs.laws.texts_are_one.Goals as goal

pub returns : goal.returns
returns c =
    let laws : RouteLaws = record {
      started = c.routes_are_determined.ensures.started;
      next = c.routes_are_determined.ensures.next;
      since = c.iterations_are_determined.ensures;
    } in record {
      determined = texts_are_determined laws c.scenarios_stand_alone.ensures;
      any_order = texts_in_any_order laws;
      swept_alone = scenarios_are_alone laws;
      audited = λ s job v w a b.
          c.verdicts_are_determined.ensures (checks_of job.net job.trips job.agents job.times (audit_plan s)) v w a b;
    }
