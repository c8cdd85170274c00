use Rattle.std.proofs.Common.{◌≡◌}
use Rattle.dta_model.specs.Lent.{plan_of}
use Rattle.dta_model.specs.Loading.{trace_after}
use Rattle.final_state.specs.Counts.{state_of}
use Rattle.final_state.specs.Whereabouts.{whereabouts_at}
use Rattle.final_state.proofs.state.final_state.Given as goal

abbrev pub invariant-loop-vehicle : goal.invariant-loop-vehicle
invariant-loop-vehicle l = l.eight ≡ state_of l.loading.horizon (whereabouts_at (plan_of l.loading) (trace_after (plan_of l.loading) l.loading.horizon)) l.vehicle
