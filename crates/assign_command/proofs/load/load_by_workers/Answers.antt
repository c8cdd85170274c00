use Rattle.std.proofs.lemmas.Result.{err_from_is_err_and}
use Rattle.assignment.specs.Lent.{settings_in, traffic_in}
use Rattle.assign_command.proofs.LoadFacts.{fault-gives, fault-watches, journeys-are, loaded-gives, loaded-watches}
use Rattle.assign_command.proofs.load.load_by_workers.Goals as goal

pub returns-in_err-loaded-clause-loads : goal.returns-in_err-loaded-clause-loads
returns-in_err-loaded-clause-loads g c =
    let p = err_from_is_err_and c.from_residual.result c.from_residual.ensures.1 in
    let a = c.args.assignment.now in
    rw (p.1, p.2) (record {
      loaded = tt;
      watches = fault-watches (settings_in a) (traffic_in a) c.args.iteration c.args.routes.now c.requires.workers _ _ _ _
          c.in_err-loaded.field-0.0 _ c.loading-loading.ensures.plan c.in_err-loaded.ensures;
    })

pub returns-in_err-loaded-clause-receipts : goal.returns-in_err-loaded-clause-receipts
returns-in_err-loaded-clause-receipts g c =
    let p = err_from_is_err_and c.from_residual.result c.from_residual.ensures.1 in
    let a = c.args.assignment.now in
    rw (p.1, p.2) (fault-gives (settings_in a) (traffic_in a) c.args.iteration c.args.routes.now c.requires.workers _ _ _ _
    c.in_err-loaded.field-0.0 _ c.loading-loading.ensures.plan c.in_err-loaded.ensures)

pub returns-clause-loads : goal.returns-clause-loads
returns-clause-loads g c =
    let a = c.args.assignment.now in
    record {
      loaded = journeys-are (settings_in a) (traffic_in a) c.args.iteration c.args.routes.now c.requires.workers _ _ _ _
          c.in_ok-loaded.loaded _ c.loading-loading.ensures.plan c.in_ok-loaded.ensures;
      watches = loaded-watches (settings_in a) (traffic_in a) c.args.iteration c.args.routes.now c.requires.workers _ _ _ _
          c.in_ok-loaded.loaded _ _ c.loading-loading.ensures.plan c.in_ok-loaded.ensures;
    }

pub returns-clause-receipts : goal.returns-clause-receipts
returns-clause-receipts g c =
    let a = c.args.assignment.now in
    loaded-gives (settings_in a) (traffic_in a) c.args.iteration c.args.routes.now c.requires.workers _ _ _ _
    c.in_ok-loaded.loaded _ _ c.loading-loading.ensures.plan c.in_ok-loaded.ensures
