use Rattle.std.proofs.Common.{refl}
use Rattle.std.proofs.lemmas.Result.{err_from_is_err_and}
use Rattle.assignment.specs.Lent.{plan_in, settings_in, traffic_in}
use Rattle.assignment.proofs.AssignmentFacts.{end-in}
use Rattle.assign_command.specs.declared.halt.Halt.TheVariants as halt
use Rattle.assign_command.proofs.IterateFacts.{watch-halts}
use Rattle.commands.proofs.OutputFacts.{end-lines}
use Rattle.commands.specs.Texts.{end_lines}
use Rattle.assign_command.proofs.load.load_plainly.Goals as goal

pub returns-in_err-watch : goal.returns-in_err-watch
returns-in_err-watch g c =
    let p = err_from_is_err_and c.from_residual-in_err-watch.result c.from_residual-in_err-watch.ensures.1 in
    let a = c.args.assignment.now in
    let end = end-in _ (plan_in a c.args.routes.now) c.final_state-end.result c.loading-loading.ensures.plan c.final_state-end.ensures.is in
    rw (p.1, p.2) (record {
      loaded = tt;
      watches = record {
        done = tt;
        halts = watch-halts (settings_in a) (traffic_in a) c.args.iteration c.args.routes.now
            c.final_state-end.result halt.Watch _ _ c.requires.is.settings end refl c.in_err-watch.ensures.refused;
        failed = λ _. c.in_err-watch.ensures.cause.failed;
        later = c.in_err-watch.ensures.cause.later;
        left = c.in_err-watch.ensures.left;
        reads = c.in_err-watch.ensures.reads;
      };
    })

pub returns : goal.returns
returns g c =
    let a = c.args.assignment.now in
    let end = end-in _ (plan_in a c.args.routes.now) c.final_state-end.result c.loading-loading.ensures.plan c.final_state-end.ensures.is in
    record {
      loaded = rw (← c.loading-loading.ensures.plan) c.in_ok-loaded.ensures.journeys;
      watches = record {
        done = (
          end_lines (settings_in a).watch c.args.iteration c.final_state-end.result,
          end-lines (settings_in a) (traffic_in a) c.args.iteration c.args.routes.now c.final_state-end.result c.requires.is.settings end,
          c.in_ok-watch.ensures.whole,
        );
        halts = tt;
        failed = tt;
        later = c.in_ok-watch.ensures.cause.later;
        left = c.in_ok-watch.ensures.left;
        reads = c.in_ok-watch.ensures.reads;
      };
    }
