use Rattle.std.proofs.Common.{◌≡◌, ◌∙◌, ap, arith, refl, subst, sym}
use Rattle.dta_model.specs.Machine.{first_in, open_end}
use Rattle.dta_model.specs.declared.machine.Stage.{Stage}
use Rattle.phase_claims.specs.Passes.{IsAmongOpen}
use Rattle.loader.proofs.crew.perform_open.Goals as goal

pub loop-number-init : goal.loop-number-init
loop-number-init g c =
    let is : c.args.pass.now.view.stage ≡ Stage.Open c.in-Open.first c.in-Open.middle c.in-Open.field-2 = sym c.stage.ensures.stage ∙ c.in-Open.is in
    let among = subst (λ s. IsAmongOpen s c.args.pass.now.view.at) is c.stage.ensures.at in
    let at = c.requires.first.1 ∙ ap first_in is in (
      c.requires.own,
      (λ _. (refl, at)),
      (λ over. absurd (omega (arith, over, among.1, at, ap open_end is))),
      record { weight = refl; spare = refl },
    )
