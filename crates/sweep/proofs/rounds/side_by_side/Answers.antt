use Rattle.std.proofs.Common.{ℕ, get_or, arith, subst}
use Rattle.std.specs.Prelude.{IfOk}
use Rattle.std.proofs.lemmas.List.{get_or_default}
use Rattle.sweep.specs.Scenarios.{IsScenario}
use Rattle.sweep.proofs.RoundFacts.{zip-from}
use Rattle.sweep.proofs.rounds.side_by_side.Goals as goal

pub returns : goal.returns
returns g c =
    let s = c.args.settings.now in
    let net = c.args.net.now in
    let cells = c.args.cells.now in
    let scales = c.args.scales.now in
    let all = c.in_ok-all.all in
    let long = all.ok.0 in
    zip-from (λ scale one. IfOk one (IsScenario s net cells scale)) scales all.items (omega (arith, long, c.in_ok-all.ensures.len))
    (λ k d e h. subst (λ (scale : ℕ). IfOk (get_or all.items k e) (IsScenario s net cells scale)) (get_or_default scales k 0 d h)
    (c.in_ok-all.ensures.each k e h).1.met)
