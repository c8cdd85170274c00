use Rattle.std.proofs.Common.{◌≤◌, ℕ, List, ◌∙◌, ap, arith, refl, subst, sym}
use Rattle.claim_core.specs.Sums.{times}
use Rattle.claim_core.proofs.Sums.{at_self}
use Rattle.phase_claims.specs.declared.view.View.{View}
use Rattle.phase_claims.proofs.Allowed.{tells_allowed}
use Rattle.phase_claims.proofs.work_told.tell.Goals as goal

pub fetch_max-requires : goal.fetch_max-requires
fetch_max-requires c = (c.requires.table, c.requires.words, tells_allowed _ _ _ _ _ _ c.requires.weight c.requires.node (omega (arith, c.requires.now)))

pub returns-clause-seat : goal.returns-clause-seat
returns-clause-seat c =
    let now = c.fetch_max.ensures.2.1 c.args.node.0 refl in
    record {
      table = c.fetch_max.ensures.0;
      view = now ∙ ap (λ (xs : List ℕ). record c.args.seat.now.me.0 { told = xs }) (sym (ap (λ (v : View). v.told) now));
      still = λ n one. subst (λ (v : View). 1 ≤ times n v.told) (sym now) (omega (arith, one));
    }

pub returns-clause-told : goal.returns-clause-told
returns-clause-told c =
    let n = c.args.node.0 in
    subst (λ (v : View). 1 ≤ times n v.told) (sym (c.fetch_max.ensures.2.1 n refl)) (omega (arith, at_self n))
