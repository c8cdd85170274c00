use Rattle.phase_claims.specs.Crews.{IsReady}
use Rattle.worked_cases.proofs.tests.floors.work_turns.Given as goal

abbrev pub invariant-loop : goal.invariant-loop
invariant-loop g l = IsReady l.floor 1 l.pass
