use Rattle.phase_claims.specs.Passes.{IsHeld, IsOf}
use Rattle.phase_claims.specs.Crews.{HasSameRights}
use Rattle.loader.proofs.crew.open.Given as goal

abbrev pub invariant-loop : goal.invariant-loop
invariant-loop g l =
    (goal.iterator-loop g).can_next l.iterator'
    × (goal.iterator-loop g).is_finite l.iterator'
    × IsOf l.floor l.pass
    × IsHeld l.pass.view.stage
    × HasSameRights l.initial.pass.view l.pass.view
