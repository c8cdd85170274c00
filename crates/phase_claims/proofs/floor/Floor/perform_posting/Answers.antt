use Rattle.std.proofs.Common.{ap, ◌∙◌, subst}
use Rattle.phase_claims.specs.Passes.{PassState, PerformsNext}
use Rattle.phase_claims.proofs.Owners.{next_pass}
use Rattle.phase_claims.proofs.floor.Floor.perform_posting.Goals as goal

pub do_posting-requires-clause-scope : goal.do_posting-requires-clause-scope
do_posting-requires-clause-scope g c = ap (λ (x : PassState). x.view.scope) c.pass.view_is ∙ c.requires.own.scope

pub invariant_of-pass : goal.invariant_of-pass
invariant_of-pass g c =
    next_pass c.pass.inside.seat.me c.go_on.new.seat.me _ _ _ c.pass.invariant (subst (λ v. PerformsNext v c.go_on.new.seat.me.0) c.do_posting.ensures.seat.view c.go_on.ensures.next) c.go_on.ensures.slots c.go_on.ensures.place
