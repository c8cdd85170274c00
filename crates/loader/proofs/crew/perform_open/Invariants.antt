use Rattle.std.proofs.Common.{◌≡◌, ◌<◌, ◌≤◌}
use Rattle.dta_model.specs.Machine.{left_of, open_end}
use Rattle.phase_claims.specs.Crews.{HasSameRights}
use Rattle.phase_claims.specs.Passes.{IsOf}
use Rattle.loader.proofs.crew.perform_open.Given as goal

abbrev pub invariant-loop-number : goal.invariant-loop-number
invariant-loop-number g l =
    let s = l.initial.pass.view.stage in
    IsOf l.floor l.pass
    × (l.number < open_end s → (l.pass.view.stage ≡ s) × (l.pass.view.at ≡ l.number))
    × (open_end s ≤ l.number → l.pass.view.stage ≡ left_of s)
    × HasSameRights l.initial.pass.view l.pass.view
