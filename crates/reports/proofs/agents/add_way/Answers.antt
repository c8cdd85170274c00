use Rattle.std.proofs.Common.{◌++◌}
use Rattle.std.specs.Prelude.{codes}
use Rattle.std.proofs.lemmas.Result.{err_from_is_err_and}
use Rattle.desk_io.specs.declared.desk.Output.TheVariants as output
use Rattle.reports.specs.Texts.{ids_of, joined, way_columns}
use Rattle.pending_text.proofs.SendingFacts.{adds-has, adds-then, has-refused}
use Rattle.reports.proofs.agents.add_way.Goals as goal

pub returns-in_err-add : goal.returns-in_err-add
unfolding way_columns
returns-in_err-add g c =
    rw (err_from_is_err_and c.from_residual-in_err-add.result c.from_residual-in_err-add.ensures.1).1
    (has-refused _ output.Agent (joined (ids_of c.args.net.now c.args.route.now)) (codes ",") (joined c.args.steps.now) _ _ _ _ _ _ _ _
    (adds-has output.Agent (joined (ids_of c.args.net.now c.args.route.now)) _ _ _ _ _ c.in_ok-add_ids.ensures) c.in_err-add.ensures)

pub returns : goal.returns
unfolding way_columns
returns g c =
    let ids = joined (ids_of c.args.net.now c.args.route.now) in
    adds-then output.Agent (ids ++ codes ",") (joined c.args.steps.now) _ _ _ _ _ _ _ c.add_steps.result
    (adds-then output.Agent ids (codes ",") _ _ _ _ _ _ _ _ c.in_ok-add_ids.ensures c.in_ok-add.ensures) c.add_steps.ensures
