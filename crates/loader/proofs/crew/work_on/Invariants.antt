use Rattle.phase_claims.specs.Passes.{IsOf}
use Rattle.phase_claims.specs.Crews.{HasSameRights}
use Rattle.loader.specs.Crews.{HasNoneOpen}
use Rattle.loader.proofs.crew.work_on.Given as goal

abbrev pub invariant-loop : goal.invariant-loop
invariant-loop g l =
    (goal.iterator-loop g).can_next l.iterator'
    × (goal.iterator-loop g).is_finite l.iterator'
    × IsOf l.floor l.pass
    × HasNoneOpen l.pass.view.stage
    × HasSameRights l.initial.pass.view l.pass.view
