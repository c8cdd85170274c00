use Rattle.dta_model.specs.Lent.{plan_of as loading_plan}
use Rattle.assignment.specs.Lent.{plan_in}
use Rattle.assignment.proofs.AssignmentFacts.{end-in}
use Rattle.assignment.proofs.iterations.end_of.Goals as goal

pub returns : goal.returns
returns c =
    end-in (loading_plan c.loading-loading.result) (plan_in c.args.assignment.now c.args.routes.now) c.final_state.result
    c.loading-loading.ensures.plan c.final_state.ensures.is
