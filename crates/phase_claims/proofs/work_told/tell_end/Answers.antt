use Rattle.std.proofs.Common.{◌≡◌, ◌<◌, ◌≤◌, subst, sym}
use Rattle.dta_model.specs.Units.{node_count, step_of}
use Rattle.phase_claims.specs.declared.view.View.{View}
use Rattle.phase_claims.proofs.Told.{same_told, told_so}
use Rattle.phase_claims.proofs.work_told.tell_end.Goals as goal

pub tell-requires-clause-node : goal.tell-requires-clause-node
tell-requires-clause-node c = subst (λ (v : View). c.args.node.0 < node_count v.scope.plan) (sym c.brings_somebody.ensures.seat.view) c.requires.node

pub tell-requires-clause-weight : goal.tell-requires-clause-weight
tell-requires-clause-weight c = subst (λ (v : View). 1 ≤ v.weight) (sym c.brings_somebody.ensures.seat.view) c.requires.weight

pub tell-requires-clause-now : goal.tell-requires-clause-now
tell-requires-clause-now c = subst (λ (v : View). c.args.step ≡ step_of (node_count v.scope.plan) v.at) (sym c.brings_somebody.ensures.seat.view) c.requires.now

pub returns-clause-seat : goal.returns-clause-seat
returns-clause-seat c = told_so _ _ _ (same_told _ _ c.brings_somebody.ensures.seat) c.tell.ensures.seat

pub returns-clause-told : goal.returns-clause-told
returns-clause-told c m got comes = c.tell.ensures.told
